-- The step that adds a change keeps the word the length of the list.
use Rattle.std.proofs.Common.{◌≡◌, ℕ, ◌+◌, ◌<◌, ◌==◌, Bool, true, false, List, [], ◌∷◌, ◌++◌, length, refl, ap, sym, subst, arith, inl, length-append, None}
use Rattle.std.proofs.lemmas.List.{append-nil}
use Rattle.std.proofs.lemmas.Bool.Decides.{nat_tests}
use mathlib.Core.List.{IsPrefix}
use prog.Atomic.{either}
use Rattle.logbook.specs.Pages.{Cell, cell, keeps, no_nib, step, Moves, Goes}
use Rattle.gw_lists.specs.Words.{IsCounted, Adds}
use Rattle.gw_lists.proofs.Beginnings.{begins_with-prefix, begins_with-whole}

module _ {C : Type 0} where
  abbrev pub shown : List C → List C
  shown list = []

  abbrev pub moved : List C → List C → ℕ → Type 0
  moved xs ys n = Unit {0}

  -- of a list that has come so far, whether or not it was the one expected
  adds_goes : (list v : List C) (change : C) (old : ℕ) → length v ≡ old → IsPrefix v list
      → (b : Bool) → (length list == old) ≡ b
      → Goes IsCounted shown moved 0 (v, (no_nib, None)) (λ n. either (n == old) (old + 1) n) (Adds (step 0 old (old + 1) change) (v, (no_nib, None))) ((length list, true) ∷ (0, true) ∷ []) list
  adds_goes list v change old len pre true is =
      let here : length list ≡ old = grind (arith, nat_tests) in
      let same : v ≡ list = begins_with-whole v list (begins_with-prefix v list pre) (omega arith) in
      let n : either (length list == old) (old + 1) (length list) ≡ length (list ++ change ∷ []) = rw is (omega (arith, length-append list (change ∷ []))) in (
        keeps,
        change ∷ [],
        None,
        tt,
        record { words = ap (λ (k : ℕ). (k, true) ∷ (0, true) ∷ []) n },
        inl (refl, refl),
        rw is (ap (λ w. w ++ change ∷ []) (sym same)),
      )
  adds_goes list v change old len pre false is =
      let all : list ++ [] ≡ list = append-nil list in
      let n : either (length list == old) (old + 1) (length list) ≡ length (list ++ []) = rw is (ap length (sym all)) in (
        keeps,
        [],
        None,
        tt,
        record { words = ap (λ (k : ℕ). (k, true) ∷ (0, true) ∷ []) n },
        inl (refl, refl),
        rw is tt,
      )

  pub adds_moves : (v : List C) (change : C) (old : ℕ) → length v ≡ old
      → Moves IsCounted shown moved 0 (v, (no_nib, None)) (λ n. either (n == old) (old + 1) n) (Adds (step 0 old (old + 1) change) (v, (no_nib, None)))
  adds_moves v change old len cells list kept pre away =
      let P : List Cell → Type 0 = λ c. (0 < length c) × ((cell c 0).1 ≡ true) × Goes IsCounted shown moved 0 (v, (no_nib, None)) (λ n. either (n == old) (old + 1) n) (Adds (step 0 old (old + 1) change) (v, (no_nib, None))) c list in
      subst P (sym kept.words) (omega arith, refl, adds_goes list v change old len pre (length list == old) refl)
