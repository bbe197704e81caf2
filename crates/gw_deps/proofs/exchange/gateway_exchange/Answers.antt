-- The edges of the Gateway that is held go, and those of the next one come.
use Rattle.std.proofs.Common.{option_copied}
use Rattle.gw_text.specs.model.World.{gateway_key}
use Rattle.gw_deps.specs.Edges.{class_edges}
use Rattle.gw_deps.proofs.Depending.{class_owned}
use Rattle.gw_deps.proofs.Replacing.{replaces}
use Rattle.gw_deps.proofs.exchange.gateway_exchange.Goals as goal

pub returns : goal.returns
returns c =
    replaces gateway_key class_edges class_owned (record { former = c.in_ok-edges_of_gateway.field-0.list; next = c.in_ok-edges_of_gateway-2.field-0.list }) c.args.key.now (option_copied c.args.next) c.args.world.now.world.gateways
    c.held_gateway.ensures.order c.held_gateway.ensures.alike c.requires (rw c.held_gateway.ensures.found at c.in_ok-edges_of_gateway.ensures) c.in_ok-edges_of_gateway-2.ensures
