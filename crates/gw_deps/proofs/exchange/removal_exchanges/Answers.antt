-- A Gateway or a Route goes.
use Rattle.gw_deps.proofs.Exchanging.{gateway_goes, route_goes}
use Rattle.gw_deps.proofs.exchange.removal_exchanges.Goals as goal

pub returns-in_ok-by_class-in-Gateway : goal.returns-in_ok-by_class-in-Gateway
returns-in_ok-by_class-in-Gateway c = rw c.in-Gateway.is (gateway_goes c.args.world.now.world c.args.key.now _ _ c.of_gateway.ensures c.in_ok-by_class-in-Gateway.ensures)

pub returns-in_ok-route-in-HttpRoute : goal.returns-in_ok-route-in-HttpRoute
returns-in_ok-route-in-HttpRoute c =
    let e = c.in_ok-route-in-HttpRoute.ensures in
    rw c.in-HttpRoute.is (route_goes c.args.world.now.world c.args.key.now _ _ _ _ _ c.of_route.ensures e.by_gateway e.by_namespace e.by_service e.by_grant)
