-- All slices of the digest are in its part.
use Rattle.std.proofs.Common.{◌≡◌, ◌<◌, ◌∙◌, get_or, length, sym}
use Rattle.std.proofs.lemmas.Bool.{ltb-true}
use Rattle.gw_store.proofs.Parts.{read_digest}
use Rattle.gw_store.proofs.by_service.ByService.of_digest.Goals as goal

pub returns-in-Some : goal.returns-in-Some
returns-in-Some c =
    let parts = c.self.inside.parts.items in
    let i = c.part_number.result in
    let part = c.in-Some.part.now in
    let within : i < length parts = ltb-true _ _ (sym (rw c.deref.ensures.value at c.in-Some.ensures.lookup.0)) in
    let read : part ≡ get_or parts i part = rw c.deref.ensures.value at c.in-Some.ensures.lookup.1 in
    rw (← c.self.view_is) (c.of_digest.ensures ∙ read_digest parts i c.args.digest part c.self.invariant within read c.part_number.ensures.value)
