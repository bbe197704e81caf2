-- What is evaluated of the Route of the key is kept under it.
use Rattle.std.proofs.Common.{◌≡◌, IfSome, rules, subst}
use Rattle.gw_kept.proofs.Holding.{evaluated_in, route_under}
use Rattle.gw_kept.specs.Held.{IsEvaluated}
use Rattle.gw_kept.proofs.held.KeptRoutes.with_route.Goals as goal

pub with-requires-clause-own : goal.with-requires-clause-own
with-requires-clause-own g c = route_under c.deref.result.now c.args.world.now.world c.args.key.now c.in_ok-kept.kept c.in_ok-kept.ensures.route

pub with-requires-clause-evaluated : goal.with-requires-clause-evaluated
with-requires-clause-evaluated g c =
    let name : c.deref.result.now ≡ c.args.self.controller = search rules in
    subst (λ n. IfSome c.in_ok-kept.kept (IsEvaluated n)) name (evaluated_in c.deref.result.now c.args.world.now.world c.args.key.now c.in_ok-kept.kept c.in_ok-kept.ensures.route)
