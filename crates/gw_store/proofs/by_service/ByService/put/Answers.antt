-- The slice goes to the part of its digest, and the others stay as they are.
use Rattle.std.proofs.Common.{◌≡◌, ◌<◌, ◌∙◌, ap, get_or, length, sym}
use Rattle.gw_store.specs.ByService.{Part, Reindexing, part_number, part_of}
use Rattle.gw_store.proofs.Parts.{own_put, parted_set, read_change, read_put, room_at, within_room}
use Rattle.gw_store.proofs.by_service.ByService.put.Goals as goal

pub put-change-requires : goal.put-change-requires
put-change-requires c =
    let parts = c.self.inside.parts.items in
    let i = c.part_number-number.result in
    let part = c.index_mut.result.now in
    let within : i < length parts = within_room parts i c.self.invariant (rw (← c.self.view_is) at c.requires) c.part_number-number.ensures.within in
    let room : 0 < (get_or parts i part).spare = room_at parts i part within (rw (← c.self.view_is) at c.requires) in
    rw c.index_mut.ensures.value room

pub invariant_of-self : goal.invariant_of-self
invariant_of-self c =
    let parts = c.self.inside.parts.items in
    let i = c.part_number-number.result in
    let within : i < length parts = within_room parts i c.self.invariant (rw (← c.self.view_is) at c.requires) c.part_number-number.ensures.within in
    let here : part_of c.args.slice ≡ i = sym (c.part_number-number.ensures.value ∙ ap part_number c.digest.ensures) in
    parted_set parts i c.put-change.new.self c.self.invariant
    (own_put parts i c.index_mut.result.now c.put-change.new.self c.self.invariant within c.index_mut.ensures.value c.args.slice here c.put-change.ensures.slices)

pub invariant_of-result : goal.invariant_of-result
invariant_of-result c =
    let parts = c.self.inside.parts.items in
    let i = c.part_number-number.result in
    let part = c.index_mut.result.now in
    let within : i < length parts = within_room parts i c.self.invariant (rw (← c.self.view_is) at c.requires) c.part_number-number.ensures.within in
    let here : part_of c.args.slice ≡ i = sym (c.part_number-number.ensures.value ∙ ap part_number c.digest.ensures) in
    let own = own_put parts i part c.put-change.new.self c.self.invariant within c.index_mut.ensures.value c.args.slice here c.put-change.ensures.slices in
    rw (c.of-before.ensures, ← c.self.view_is, c.of.ensures) (read_change parts i part c.put-change.new.self c.self.invariant within c.index_mut.ensures.value c.put-change.result own
    (ap (λ (change : Reindexing Part). change.before) c.put-change.ensures.change) (ap (λ (change : Reindexing Part). change.after) c.put-change.ensures.change))

pub returns-clause-slices : goal.returns-clause-slices
returns-clause-slices c =
    let parts = c.self.inside.parts.items in
    let i = c.part_number-number.result in
    let within : i < length parts = within_room parts i c.self.invariant (rw (← c.self.view_is) at c.requires) c.part_number-number.ensures.within in
    let here : part_of c.args.slice ≡ i = sym (c.part_number-number.ensures.value ∙ ap part_number c.digest.ensures) in
    rw (← c.self.view_is) (read_put parts i c.index_mut.result.now c.put-change.new.self c.self.invariant within c.index_mut.ensures.value c.args.slice here c.put-change.ensures.slices)
