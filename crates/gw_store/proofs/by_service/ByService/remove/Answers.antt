-- The slice is taken from the part of its digest, and the others stay as they are.
use Rattle.std.proofs.Common.{◌≡◌, ◌<◌, ◌≤◌, ◌∙◌, [], List, ap, arith, length, refl, sym}
use Rattle.gw_store.specs.ByService.{Part, Reindexing, joined, part_number, part_of, without}
use Rattle.gw_store.proofs.Parts.{no_parts, own_removal, parted_set, read_change, read_removal, read_room}
use Rattle.gw_store.proofs.by_service.ByService.remove.Goals as goal

pub returns-then-len-number-clause-slices : goal.returns-then-len-number-clause-slices
unfolding without
returns-then-len-number-clause-slices c =
    let parts = c.self.inside.parts.items in
    let i = c.part_number-number.result in
    let past : length parts ≤ i = omega (arith, c.if-len-number.true, c.len.ensures, c.self.inside.parts.ok.0) in
    let none : parts ≡ [] = no_parts parts i c.self.invariant past c.part_number-number.ensures.within in
    let same : joined parts ≡ without c.args.slice.now (joined parts) = rw none refl in
    rw (← c.self.view_is) same

pub invariant_of-self : goal.invariant_of-self
invariant_of-self c =
    let parts = c.self.inside.parts.items in
    let i = c.part_number-number.result in
    let within : i < length parts = omega (arith, c.if-len-number.false, c.len.ensures, c.self.inside.parts.ok.0) in
    parted_set parts i c.remove-change.new.self c.self.invariant
    (own_removal parts i c.index_mut.result.now c.remove-change.new.self c.self.invariant within c.index_mut.ensures.value c.args.slice.now c.remove-change.ensures.slices)

pub invariant_of-result : goal.invariant_of-result
invariant_of-result c =
    let parts = c.self.inside.parts.items in
    let i = c.part_number-number.result in
    let part = c.index_mut.result.now in
    let within : i < length parts = omega (arith, c.if-len-number.false, c.len.ensures, c.self.inside.parts.ok.0) in
    let own = own_removal parts i part c.remove-change.new.self c.self.invariant within c.index_mut.ensures.value c.args.slice.now c.remove-change.ensures.slices in
    rw (c.of-before.ensures, ← c.self.view_is, c.of.ensures) (read_change parts i part c.remove-change.new.self c.self.invariant within c.index_mut.ensures.value c.remove-change.result own
    (ap (λ (change : Reindexing Part). change.before) c.remove-change.ensures.change) (ap (λ (change : Reindexing Part). change.after) c.remove-change.ensures.change))

pub returns-clause-slices : goal.returns-clause-slices
returns-clause-slices c =
    let parts = c.self.inside.parts.items in
    let i = c.part_number-number.result in
    let within : i < length parts = omega (arith, c.if-len-number.false, c.len.ensures, c.self.inside.parts.ok.0) in
    let here : part_of c.args.slice.now ≡ i = sym (c.part_number-number.ensures.value ∙ ap part_number c.slice_digest.ensures) in
    rw (← c.self.view_is) (read_removal parts i c.index_mut.result.now c.remove-change.new.self c.self.invariant within c.index_mut.ensures.value c.args.slice.now here c.remove-change.ensures.slices)

pub returns-clause-spare : goal.returns-clause-spare
returns-clause-spare c =
    let parts = c.self.inside.parts.items in
    let i = c.part_number-number.result in
    let within : i < length parts = omega (arith, c.if-len-number.false, c.len.ensures, c.self.inside.parts.ok.0) in
    rw (← c.self.view_is) (read_room parts i c.index_mut.result.now c.remove-change.new.self c.self.invariant within c.index_mut.ensures.value c.remove-change.ensures.spare)
