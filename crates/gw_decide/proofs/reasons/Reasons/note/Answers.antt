-- A reason at the place of the key.
use Rattle.std.proofs.Common.{◌∙◌, ap, sym, subst, set, get_or}
use Rattle.gw_text.specs.model.Forms.{is_key}
use Rattle.gw_decide.specs.Entries.{Entry, IsExplained}
use Rattle.gw_decide.specs.model.Reasons.{further}
use Rattle.gw_decide.proofs.Places.{noted-standing, noted-missing, ordered-set, ordered-insert, formed-set, formed-insert}
use Rattle.gw_decide.proofs.reasons.Reasons.note.Goals as goal

pub invariant_of-self : goal.invariant_of-self
invariant_of-self c =
    let es = c.self.inside.entries.items in
    let e = c.index_mut-entry.result.now in
    let kept : IsExplained (set es c.in-Ok.at ((get_or es c.in-Ok.at e).0, c.further-entry.result)) =
    record { order = ordered-set _ es _ e c.self.invariant.order; keys = formed-set _ es _ e c.self.invariant.keys } in
    subst (λ (x : Entry). IsExplained (set es c.in-Ok.at (x.0, c.further-entry.result))) (sym c.index_mut-entry.ensures.value) kept

pub invariant_of-self-in-Continue-branch-2 : goal.invariant_of-self-in-Continue-branch-2
invariant_of-self-in-Continue-branch-2 c =
    let place = rw (c.as_slice.ensures.value, ← c.in_ok-key-in-Err.ensures) at c.in-Err.ensures.place in
    let same = c.in_ok-key-in-Err.ensures ∙ c.formed-key.ensures.value in
    rw c.in_ok-insert-in-Err.ensures.items (record {
      order = ordered-insert _ _ _ c.self.invariant.order place;
      keys = formed-insert _ _ _ c.self.invariant.keys (ap is_key same ∙ c.formed-key.ensures.form);
    })

pub returns-in-Ok-clause-noted : goal.returns-in-Ok-clause-noted
returns-in-Ok-clause-noted c =
    let es = c.self.inside.entries.items in
    let e = c.index_mut-entry.result.now in
    let place = rw (c.as_slice.ensures.value, c.formed-key.ensures.value) at c.in-Ok.ensures.place in
    rw (c.further-entry.ensures, ← c.self.view_is)
    (ap (λ (x : Entry). set es c.in-Ok.at (x.0, further x.1 c.args.why)) c.index_mut-entry.ensures.value ∙ noted-standing _ _ es _ e place)

pub returns-in_ok-insert-in-Err-clause-noted : goal.returns-in_ok-insert-in-Err-clause-noted
returns-in_ok-insert-in-Err-clause-noted c =
    let place = rw (c.as_slice.ensures.value, c.formed-key.ensures.value) at c.in-Err.ensures.place in
    rw (c.in_ok-insert-in-Err.ensures.items, c.in_ok-key-in-Err.ensures, c.formed-key.ensures.value, ← c.self.view_is) (noted-missing _ _ _ _ place)
