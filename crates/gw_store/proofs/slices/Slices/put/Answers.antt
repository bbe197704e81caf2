-- The index follows the slices in each of the three ways that a put goes.
use Rattle.std.proofs.Common.{◌≡◌, ◌∙◌, ◌==◌, false, ap, sym, get_or, arith}
use Rattle.std.proofs.lemmas.Bool.Decides.{nat_tests}
use Rattle.gw_text.specs.model.Slices.{EndpointSlice}
use Rattle.gw_text.specs.model.Stored.{Stored, put, IsInKeyOrder}
use Rattle.gw_text.specs.model.World.{slice_key}
use Rattle.gw_store.specs.ByService.{slice_digest, put_slice, without}
use Rattle.gw_store.specs.Table.{StandsAt, IsMissingAt}
use Rattle.gw_store.proofs.SlicesOf.{index_grown, index_kept, index_moved}
use Rattle.gw_store.proofs.slices.Slices.put.Goals as goal
use Rattle.gw_store.proofs.slices.Slices.put.Goals.{in-Ok+then-slice_digest-digest, in-Ok+else-slice_digest-digest, in-Err}

pub invariant_of-self : goal.invariant_of-self
invariant_of-self c =
    let hs = c.self.inside.table.stored in
    let index = c.self.inside.by_service.slices in
    let x = c.args.slice in
    let now = c.args.now in
    let order : IsInKeyOrder slice_key hs = rw c.objects-slices.ensures.value at c.objects-slices.ensures.order in
    elim c.match-place_of.branch [
      | in-Ok+then-slice_digest-digest w ↦ (
          let at = w.in-Ok.at in
          let stands : StandsAt slice_key (slice_key x) hs at = rw (c.key.ensures.value, c.deref.ensures) at w.in-Ok.ensures.place in
          let held = w.index-slices-at.result in
          let read : held ≡ get_or hs at held = rw c.objects-slices.ensures.value at w.index-slices-at.is in
          let object : held.object ≡ (get_or hs at held).object = ap (λ (h : Stored EndpointSlice). h.object) read in
          let apart : (w.slice_digest.result == w.digest.result) ≡ false = grind (arith, nat_tests, w.if-slice_digest-digest.true) in
          let own : w.slice_digest.result ≡ slice_digest (get_or hs at held).object = w.slice_digest.ensures ∙ ap slice_digest (w.deref-in-Ok.ensures ∙ object) in
          let moved : (slice_digest (get_or hs at held).object == slice_digest x) ≡ false = rw (own, w.digest.ensures) at apart in
          let left : w.remove.new.self.slices ≡ without (get_or hs at held).object index =
          w.remove.ensures.slices ∙ ap (λ (s : EndpointSlice). without s index) (w.deref-then-slice_digest-digest.ensures ∙ object) in
          let indexed : c.put.new.self.slices ≡ put_slice x w.remove.new.self.slices = rw (w.self-inside-is, c.into_handles-slice.ensures.of_service) at c.put.ensures.slices in
          let stored : c.put-table.new.self.stored ≡ put slice_key x now hs = rw (w.self-inside-is, c.into_handles-slice.ensures.slice) at c.put-table.ensures.stored in
          rw (indexed, left, stored) (index_moved x now hs index at held order c.self.invariant stands moved))
      | in-Ok+else-slice_digest-digest w ↦ (
          let at = w.in-Ok.at in
          let stands : StandsAt slice_key (slice_key x) hs at = rw (c.key.ensures.value, c.deref.ensures) at w.in-Ok.ensures.place in
          let held = w.index-slices-at.result in
          let read : held ≡ get_or hs at held = rw c.objects-slices.ensures.value at w.index-slices-at.is in
          let object : held.object ≡ (get_or hs at held).object = ap (λ (h : Stored EndpointSlice). h.object) read in
          let equal : w.slice_digest.result ≡ w.digest.result = omega (arith, w.if-slice_digest-digest.false) in
          let own : w.slice_digest.result ≡ slice_digest (get_or hs at held).object = w.slice_digest.ensures ∙ ap slice_digest (w.deref-in-Ok.ensures ∙ object) in
          let indexed : c.put.new.self.slices ≡ put_slice x index = rw (w.self-inside-is, c.into_handles-slice.ensures.of_service) at c.put.ensures.slices in
          let stored : c.put-table.new.self.stored ≡ put slice_key x now hs = rw (w.self-inside-is, c.into_handles-slice.ensures.slice) at c.put-table.ensures.stored in
          rw (indexed, stored) (index_kept x now hs index at held order c.self.invariant stands (sym own ∙ (equal ∙ w.digest.ensures))))
      | in-Err w ↦ (
          let missing : IsMissingAt slice_key (slice_key x) hs w.in-Err.field-0 = rw (c.key.ensures.value, c.deref.ensures) at w.in-Err.ensures.place in
          let indexed : c.put.new.self.slices ≡ put_slice x index = rw (w.self-inside-is, c.into_handles-slice.ensures.of_service) at c.put.ensures.slices in
          let stored : c.put-table.new.self.stored ≡ put slice_key x now hs = rw (w.self-inside-is, c.into_handles-slice.ensures.slice) at c.put-table.ensures.stored in
          rw (indexed, stored) (index_grown x now hs index w.in-Err.field-0 order c.self.invariant missing))
    ]
