-- The rules are those of the Route, in its namespace.
use Rattle.std.proofs.Common.{◌≡◌, ◌∙◌, rules}
use Rattle.gw_eval.proofs.FirstOf.{resolved_by_rules}
use Rattle.gw_eval.proofs.references.resolved_refs.Goals as goal

pub returns : goal.returns
returns c =
    let namespace : c.namespace_of-namespace.result.now ≡ c.args.route.now.meta.key.namespace = search rules in
    let all : c.as_slice.result.now ≡ c.args.route.now.rules = search rules in
    c.in_ok-condition.ensures ∙ rw (namespace, all) (resolved_by_rules c.args.world.now.world c.args.route.now)
