-- A pick exists where a weight is above 0, whatever was picked before.
use Rattle.std.proofs.Common.{◌≡◌, ◌⊎◌, ℕ, ◌+◌, ◌-◌, ◌<◌, Bool, true, false, inl, inr, List, [], ◌∷◌, length, sum, refl, subst, arith, suc, zero, Some}
use Rattle.std.proofs.lemmas.Int.{ints}
use Rattle.std.specs.Prelude.{ℤ, ◌≤ℤ◌, ◌<ℤ◌, int_le}
use Rattle.std.specs.List.{slice_get}
use Rattle.gw_text.specs.model.Picks.{Choice, claim, drawn_from, numbers_of, pick_after}
use Rattle.gw_weight.proofs.Claims.{Leads, Leads-keeps, Leads-pick, Leads-start, Leads-takes, sum-some}

in_order : (x y : ℤ) → (x ≤ℤ y) ⊎ (y <ℤ x)
in_order x y = by (int_le x y) refl
  where
    by : (t : Bool) → int_le x y ≡ t → (x ≤ℤ y) ⊎ (y <ℤ x)
    by true e = inl (grind (arith, ints))
    by false e = inr (grind (arith, ints))

-- Of some numbers, one leads.
leader : (c : ℕ → ℤ) (n : ℕ) → (b : ℕ) × Leads c (n + 1) b
leader c zero = (0, Leads-start c)
leader c (suc n) = next (leader c n)
  where
    next : (b : ℕ) × Leads c (n + 1) b → (b : ℕ) × Leads c (suc n + 1) b
    next before = elim (in_order (c (n + 1)) (c before.0)) [
      | inl keeps ↦ (before.0, subst (λ (m : ℕ). Leads c m before.0) (omega arith) (Leads-keeps c (n + 1) before.0 before.1 keeps))
      | inr takes ↦ (n + 1, subst (λ (m : ℕ). Leads c m (n + 1)) (omega arith) (Leads-takes c (n + 1) before.0 before.1 takes))
    ]

pick_exists : (ws : List ℕ) (k : ℕ) (n : ℕ → ℕ) → 0 < sum ws → (i : ℕ) × (i < length ws) × (pick_after ws k n ≡ Some i)
pick_exists ws k n positive =
    let some : 0 < length ws = sum-some ws positive in
    let first = leader (claim ws k n) (length ws - 1) in
    let all : Leads (claim ws k n) (length ws) first.0 = subst (λ (m : ℕ). Leads (claim ws k n) m first.0) (omega arith) first.1 in
    (first.0, all.within, Leads-pick ws k n first.0 positive all)

-- The pick of a choice.
pub draw_exists : (choice : Choice) (book : List (Choice × List ℕ)) → 0 < sum choice.weights → (i : ℕ) × (i < length choice.weights) × (drawn_from choice book ≡ Some i)
draw_exists choice book positive = pick_exists choice.weights (sum (numbers_of choice book)) _ positive

-- There is an item at each place below the length.
pub item_exists : {T : Type 0} (items : List T) (i : ℕ) → i < length items → (x : T) × (slice_get items i ≡ Some x)
item_exists [] i within = absurd (omega arith)
item_exists (x ∷ items) zero within = (x, refl)
item_exists (x ∷ items) (suc i) within = item_exists items i (omega (arith, within))
