-- The slices of the Service that the backendRef names decide.
use Rattle.std.proofs.Common.{◌≡◌, map, filter, Bor}
use Rattle.gw_objects.specs.declared.slice.EndpointSlice.{EndpointSlice}
use Rattle.gw_text.specs.model.References.{is_slice_of}
use Rattle.gw_text.specs.model.Routes.{backend_key}
use Rattle.gw_text.specs.model.Stored.{objects_of}
use Rattle.gw_eval.proofs.Backends.{state_by_service}
use Rattle.gw_eval.proofs.references.state.Goals as goal

pub returns : goal.returns
returns c =
    let w = c.args.world.now.world in
    let b = c.args.to.now in
    let found = map (λ (s : Bor EndpointSlice). s.now) c.in_ok-slices.slices.items in
    let same : filter (is_slice_of (backend_key b)) found ≡ filter (is_slice_of (backend_key b)) (objects_of w.slices) = rw c.in_ok-key.ensures at c.in_ok-slices.ensures in
    let here = state_by_service w c.args.namespace.now b found same in
    let service = rw c.in_ok-key.ensures at c.service.ensures in
    rw (← here, ← c.is_permitted-permitted.ensures, ← service, ← c.as_slice.ensures.value) c.backend_state.ensures
