-- The part that was changed is as the change left it, and gets back what it had.
use Rattle.std.proofs.Common.{◌≡◌, ◌∙◌, Some, ap, arith, sym}
use Rattle.gw_store.specs.ByService.{Index, IsReindexing, Reindexing, index_of}
use Rattle.gw_store.proofs.Parts.{undone_part, undone_parted, undone_parts, within_parts}
use Rattle.gw_store.proofs.by_service.ByService.undo.Goals as goal

pub index_mut-requires : goal.index_mut-requires
index_mut-requires c =
    let parts = c.self.inside.parts.items in
    let was : c.change.inside.change ≡ Some c.in_ok-change.change = c.in_ok-change.was in
    let after : c.change.inside.after.value ≡ index_of parts = ap (λ (change : Reindexing Index). change.after) c.change.view_is ∙ (sym c.requires ∙ sym c.self.view_is) in
    let is : IsReindexing c.change.inside.number c.in_ok-change.change c.change.inside.before.value (index_of parts) = rw (was, after) at c.change.invariant in
    omega (arith, within_parts parts c.change.inside.number c.in_ok-change.change c.change.inside.before.value is, c.self.inside.parts.ok.0)

pub undo-requires : goal.undo-requires
undo-requires c =
    let parts = c.self.inside.parts.items in
    let was : c.change.inside.change ≡ Some c.in_ok-change.change = c.in_ok-change.was in
    let after : c.change.inside.after.value ≡ index_of parts = ap (λ (change : Reindexing Index). change.after) c.change.view_is ∙ (sym c.requires ∙ sym c.self.view_is) in
    let is : IsReindexing c.change.inside.number c.in_ok-change.change c.change.inside.before.value (index_of parts) = rw (was, after) at c.change.invariant in
    undone_part parts c.change.inside.number c.index_mut.result.now c.in_ok-change.change c.change.inside.before.value c.self.invariant c.index_mut.ensures.value is

pub invariant_of-self : goal.invariant_of-self
invariant_of-self c =
    let parts = c.self.inside.parts.items in
    let was : c.change.inside.change ≡ Some c.in_ok-change.change = c.in_ok-change.was in
    let after : c.change.inside.after.value ≡ index_of parts = ap (λ (change : Reindexing Index). change.after) c.change.view_is ∙ (sym c.requires ∙ sym c.self.view_is) in
    let is : IsReindexing c.change.inside.number c.in_ok-change.change c.change.inside.before.value (index_of parts) = rw (was, after) at c.change.invariant in
    undone_parted parts c.change.inside.number c.undo.new.self c.in_ok-change.change c.change.inside.before.value c.self.invariant is c.undo.ensures.part

pub returns-clause-index : goal.returns-clause-index
returns-clause-index c =
    let parts = c.self.inside.parts.items in
    let was : c.change.inside.change ≡ Some c.in_ok-change.change = c.in_ok-change.was in
    let after : c.change.inside.after.value ≡ index_of parts = ap (λ (change : Reindexing Index). change.after) c.change.view_is ∙ (sym c.requires ∙ sym c.self.view_is) in
    let is : IsReindexing c.change.inside.number c.in_ok-change.change c.change.inside.before.value (index_of parts) = rw (was, after) at c.change.invariant in
    undone_parts parts c.change.inside.number c.index_mut.result.now c.undo.new.self c.in_ok-change.change c.change.inside.before.value c.self.invariant is c.undo.ensures.part
    ∙ ap (λ (change : Reindexing Index). change.before) c.change.view_is
