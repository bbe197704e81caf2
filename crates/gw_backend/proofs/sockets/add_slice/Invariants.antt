-- The sockets so far, and then those of the rest, are those of all endpoints.
use Rattle.std.proofs.Common.{◌≡◌, drop}
use Rattle.std.specs.List.{filter_map}
use Rattle.indexmap.specs.IndexSet.{insert_all}
use Rattle.gw_text.specs.model.Doors.{same_socket}
use Rattle.gw_text.specs.model.References.{endpoint_socket}
use Rattle.gw_backend.proofs.sockets.add_slice.Given as goal

abbrev pub invariant-endpoints : goal.invariant-endpoints
invariant-endpoints l =
    insert_all same_socket l.sockets.keys (filter_map (endpoint_socket l.port) (drop l.endpoint-index l.slice.endpoints))
    ≡ insert_all same_socket l.fn.sockets.keys (filter_map (endpoint_socket l.port) l.slice.endpoints)
