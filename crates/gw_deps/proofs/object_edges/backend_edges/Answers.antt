-- The rules are all done.
use Rattle.std.proofs.Common.{◌≡◌, ◌∙◌, ap, length, rules}
use Rattle.std.specs.List.{list_any}
use Rattle.gw_text.specs.model.Names.{Key}
use Rattle.gw_text.specs.model.Routes.{Rule}
use Rattle.gw_deps.specs.Edges.{gives, grant_edge, leaves, names_service, service_edge}
use Rattle.gw_deps.proofs.Choices.{finished}
use Rattle.gw_deps.proofs.Exchanging.{services_given, grants_given}
use Rattle.gw_deps.proofs.object_edges.backend_edges.Goals as goal

pub returns-clause-services : goal.returns-clause-services
returns-clause-services c = λ x.
    let r = c.args.route.now in
    let items = c.as_slice-rule-items.result.now in
    let are : items ≡ r.rules = search rules in
    let end : c.rules.rule-index ≡ length items = search rules in
    finished (λ rule. list_any (gives names_service (service_edge c.args.key.now) x) rule.backend_refs) items c.rules.rule-index _ _ end (c.rules.invariant.services x)
    ∙ (ap (λ all. list_any (λ (rule : Rule). list_any (gives names_service (service_edge c.args.key.now) x) rule.backend_refs) all) are
    ∙ (ap (λ (key : Key). list_any (λ (rule : Rule). list_any (gives names_service (service_edge key) x) rule.backend_refs) r.rules) c.requires ∙ services_given r x))

pub returns-clause-grants : goal.returns-clause-grants
returns-clause-grants c = λ x.
    let r = c.args.route.now in
    let items = c.as_slice-rule-items.result.now in
    let are : items ≡ r.rules = search rules in
    let end : c.rules.rule-index ≡ length items = search rules in
    finished (λ rule. list_any (gives (leaves c.args.key.now.namespace) (grant_edge c.args.key.now) x) rule.backend_refs) items c.rules.rule-index _ _ end (c.rules.invariant.grants x)
    ∙ (ap (λ all. list_any (λ (rule : Rule). list_any (gives (leaves c.args.key.now.namespace) (grant_edge c.args.key.now) x) rule.backend_refs) all) are
    ∙ (ap (λ (key : Key). list_any (λ (rule : Rule). list_any (gives (leaves key.namespace) (grant_edge key) x) rule.backend_refs) r.rules) c.requires ∙ grants_given r x))
