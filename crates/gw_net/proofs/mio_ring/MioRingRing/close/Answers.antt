-- The number is taken away where it is there, and nothing else is changed.
use Rattle.std.proofs.Common.{◌≡◌, ◌∙◌, ℕ, List, true, false, true≢false, ap, sym, rules}
use Rattle.std.proofs.lemmas.Fn.{filter_same}
use Rattle.gw_polling.specs.Rings.{is_among, without}
use Rattle.gw_polling.proofs.NumberLemmas.{without_other}
use Rattle.gw_net.specs.Real.{RingState}
use Rattle.gw_net.proofs.mio_ring.MioRingRing.close.Goals as goal

pub returns-then-contains-clause-closes : goal.returns-then-contains-clause-closes
returns-then-contains-clause-closes g c =
    let taken : c.retain.new.self.items ≡ without c.args.number c.self.inside.open_numbers.items =
    filter_same _ _ _ (λ x b f' told. search rules) _ _ c.retain.ensures.filtered in
    ap (λ (n : List ℕ). record { open_numbers = n; next = c.self.inside.next; faults = c.self.inside.faults }) taken
    ∙ ap (λ (s : RingState). record s { open_numbers = without c.args.number s.open_numbers }) c.self.view_is

pub returns-then-contains-clause-unopened : goal.returns-then-contains-clause-unopened
returns-then-contains-clause-unopened g c none =
    let found : is_among c.args.number c.self.inside.open_numbers.items ≡ true = rw c.deref.ensures.value at (sym c.contains.ensures.value ∙ c.if-contains.true) in
    absurd (true≢false (sym found ∙ ap (λ (s : RingState). is_among c.args.number s.open_numbers) c.self.view_is ∙ none))

pub returns-else-contains-clause-closes : goal.returns-else-contains-clause-closes
returns-else-contains-clause-closes g c =
    let now = c.args.self.now in
    let missed : is_among c.args.number c.self.inside.open_numbers.items ≡ false = rw c.deref.ensures.value at (sym c.contains.ensures.value ∙ c.if-contains.false) in
    let same : without c.args.number now.open_numbers ≡ now.open_numbers =
    without_other c.args.number now.open_numbers (sym (ap (λ (s : RingState). is_among c.args.number s.open_numbers) c.self.view_is) ∙ missed) in
    sym (ap (λ (n : List ℕ). record now { open_numbers = n }) same)
