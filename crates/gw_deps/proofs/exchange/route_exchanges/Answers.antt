-- The edges of the Route that is held go, and those of the next one come.
use Rattle.std.proofs.Common.{option_copied}
use Rattle.gw_text.specs.model.World.{route_key}
use Rattle.gw_deps.specs.Edges.{grant_edges, namespace_edges, parent_edges, service_edges}
use Rattle.gw_deps.proofs.Depending.{grant_owned, namespace_owned, parent_owned, service_owned}
use Rattle.gw_deps.proofs.Replacing.{replaces}
use Rattle.gw_deps.proofs.exchange.route_exchanges.Goals as goal

pub returns-clause-by_gateway : goal.returns-clause-by_gateway
returns-clause-by_gateway c =
    replaces route_key parent_edges parent_owned (record { former = c.in_ok-former.former.parents.list; next = c.in_ok-next.next.parents.list }) c.args.key.now (option_copied c.args.next) c.args.world.now.world.routes
    c.held_route.ensures.order c.held_route.ensures.alike c.requires (rw c.held_route.ensures.found at c.in_ok-former.ensures.parents) c.in_ok-next.ensures.parents

pub returns-clause-by_namespace : goal.returns-clause-by_namespace
returns-clause-by_namespace c =
    replaces route_key namespace_edges namespace_owned (record { former = c.in_ok-former.former.namespace.list; next = c.in_ok-next.next.namespace.list }) c.args.key.now (option_copied c.args.next) c.args.world.now.world.routes
    c.held_route.ensures.order c.held_route.ensures.alike c.requires (rw c.held_route.ensures.found at c.in_ok-former.ensures.namespace) c.in_ok-next.ensures.namespace

pub returns-clause-by_service : goal.returns-clause-by_service
returns-clause-by_service c =
    replaces route_key service_edges service_owned (record { former = c.in_ok-former.former.services.list; next = c.in_ok-next.next.services.list }) c.args.key.now (option_copied c.args.next) c.args.world.now.world.routes
    c.held_route.ensures.order c.held_route.ensures.alike c.requires (rw c.held_route.ensures.found at c.in_ok-former.ensures.services) c.in_ok-next.ensures.services

pub returns-clause-by_grant : goal.returns-clause-by_grant
returns-clause-by_grant c =
    replaces route_key grant_edges grant_owned (record { former = c.in_ok-former.former.grants.list; next = c.in_ok-next.next.grants.list }) c.args.key.now (option_copied c.args.next) c.args.world.now.world.routes
    c.held_route.ensures.order c.held_route.ensures.alike c.requires (rw c.held_route.ensures.found at c.in_ok-former.ensures.grants) c.in_ok-next.ensures.grants
