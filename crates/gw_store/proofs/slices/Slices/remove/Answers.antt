-- The index without the slice is one of the slices without it.
use Rattle.std.proofs.Common.{◌≡◌, ◌∙◌, ap, get_or}
use Rattle.gw_text.specs.model.Slices.{EndpointSlice}
use Rattle.gw_text.specs.model.Stored.{Stored, remove}
use Rattle.gw_text.specs.model.World.{slice_key}
use Rattle.gw_store.specs.ByService.{IsIndexOf, without}
use Rattle.gw_store.proofs.Places.{remove-missing}
use Rattle.gw_store.proofs.SlicesOf.{index_removed}
use Rattle.gw_store.proofs.slices.Slices.remove.Goals as goal
use Rattle.gw_store.proofs.slices.Slices.remove.Goals.{in-Ok, in-Err}

pub invariant_of-self : goal.invariant_of-self
invariant_of-self c =
    let name = c.args.key.now in
    let hs = c.self.inside.table.stored in
    let index = c.self.inside.by_service.slices in
    elim c.match-place_of.branch [
      | in-Ok w ↦ (
          let at = w.in-Ok.at in
          let held = w.index-objects-at.result in
          let read : held ≡ get_or hs at held = rw w.objects.ensures.value at w.index-objects-at.is in
          let left : w.remove.new.self.slices ≡ without (get_or hs at held).object index =
          w.remove.ensures.slices ∙ ap (λ (s : EndpointSlice). without s index) (w.deref.ensures ∙ ap (λ (h : Stored EndpointSlice). h.object) read) in
          let stored : c.remove-table.new.self.stored ≡ remove slice_key name hs = rw w.self-inside-is at c.remove-table.ensures.stored in
          rw (w.self-inside-is, left, stored) (index_removed name hs index at held w.in-Ok.ensures.place c.self.invariant))
      | in-Err w ↦ (
          let stored : c.remove-table.new.self.stored ≡ hs = rw (w.self-inside-is, ← remove-missing slice_key name _ _ w.in-Err.ensures.place) at c.remove-table.ensures.stored in
          rw (w.self-inside-is, stored) c.self.invariant)
    ]
