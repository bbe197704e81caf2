-- How the state of a backendRef stands for the plain one.
use Rattle.gw_text.specs.model.References.{BackendState as Plain, invalid_kind, not_permitted, not_found, bad_protocol, no_endpoints, ready}
use Rattle.gw_route.specs.declared.state.BackendState.{BackendState}
use Rattle.gw_route.specs.declared.state.BackendState.TheVariants.{InvalidKind, NotPermitted, NotFound, BadProtocol, NoEndpoints, Ready}

abbrev pub seen_state : BackendState → Plain
seen_state InvalidKind = invalid_kind
seen_state NotPermitted = not_permitted
seen_state NotFound = not_found
seen_state BadProtocol = bad_protocol
seen_state NoEndpoints = no_endpoints
seen_state (Ready sockets) = ready sockets
