-- The sockets so far, and then those of the rest, are those of all slices.
use Rattle.std.proofs.Common.{◌≡◌, [], drop, filter, map}
use Rattle.std.specs.List.{flat_map}
use Rattle.indexmap.specs.IndexSet.{insert_all}
use Rattle.gw_text.specs.model.Doors.{same_socket}
use Rattle.gw_text.specs.model.References.{is_slice_of, slice_sockets}
use Rattle.gw_backend.proofs.sockets.gather.Given as goal

abbrev pub invariant-slices : goal.invariant-slices
invariant-slices l =
    insert_all same_socket l.sockets.keys (flat_map (slice_sockets l.target.port.now) (filter (is_slice_of l.target.service.now) (map (λ s. s.now) (drop l.slice-index l.slices))))
    ≡ insert_all same_socket [] (flat_map (slice_sockets l.target.port.now) (filter (is_slice_of l.target.service.now) (map (λ s. s.now) l.slices)))
