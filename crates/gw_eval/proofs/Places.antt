-- How a Route is counted at one place more.
use Rattle.std.proofs.Common.{◌≡◌, ◌∙◌, sym, ap, refl, ℕ, ◌+◌, ◌<◌, Bool, true, false, not, ◌&&◌, ◌||◌, nat_eq, max, List, [], ◌∷◌, ◌++◌, length, take, get_or, arith, true≢false}
use mathlib.Core.Logic.{inl, inr}
use Rattle.std.specs.List.{list_any}
use Rattle.std.proofs.lemmas.Bool.Decides.{eqb_tells}
use Rattle.std.proofs.lemmas.List.{take_more}
use Rattle.std.proofs.lemmas.List.Folds.{list_any-append}
use Rattle.gw_eval.specs.Counting.{more}

or_false : (b : Bool) → (b || false) ≡ b
or_false true = refl
or_false false = refl

-- whether a place is among those so far and the next
pub among_more : (xs : List ℕ) (i x other : ℕ) → take (i + 1) xs ≡ take i xs ++ x ∷ [] →
    list_any (nat_eq other) (take (i + 1) xs) ≡ (list_any (nat_eq other) (take i xs) || nat_eq other x)
among_more xs i x other is = ap (list_any (nat_eq other)) is ∙ list_any-append (nat_eq other) (take i xs) (x ∷ []) ∙ ap (λ b. list_any (nat_eq other) (take i xs) || b) (or_false (nat_eq other x))

-- one more where it is new
pub once_more : (among taken same : Bool) (n : ℕ) → more ((not among && not taken) && same) (more (among && not taken) n) ≡ more ((among || same) && not taken) n
once_more true true true n = omega arith
once_more true true false n = omega arith
once_more true false true n = omega arith
once_more true false false n = omega arith
once_more false true true n = omega arith
once_more false true false n = omega arith
once_more false false true n = omega arith
once_more false false false n = omega arith

next : (xs : List ℕ) (i x : ℕ) → i < length xs → x ≡ get_or xs i 0 → take (i + 1) xs ≡ take i xs ++ x ∷ []
next xs i x within is = take_more xs i 0 within ∙ ap (λ y. take i xs ++ y ∷ []) (sym is)

and_false : (b : Bool) → (b && false) ≡ false
and_false true = refl
and_false false = refl

-- what was counted so far and the next place are what is counted
pub counted_more : (row now new xs : List ℕ) (i x : ℕ) (taken : ℕ → Bool) (is_counted : Bool) → i < length xs → x ≡ get_or xs i 0 →
    is_counted ≡ (not (list_any (nat_eq x) (take i xs)) && not (taken x)) → length now ≡ length row →
    ((other : ℕ) → other < length row → get_or now other 0 ≡ more (list_any (nat_eq other) (take i xs) && not (taken other)) (get_or row other 0)) →
    ((other : ℕ) → other < length now → get_or new other 0 ≡ more (is_counted && nat_eq other x) (get_or now other 0)) →
    (other : ℕ) → other < length row → get_or new other 0 ≡ more (list_any (nat_eq other) (take (i + 1) xs) && not (taken other)) (get_or row other 0)
counted_more row now new xs i x taken is_counted within is counts many before numbers other here =
    let among = list_any (nat_eq other) (take i xs) in
    let there : (is_counted && nat_eq other x) ≡ ((not among && not (taken other)) && nat_eq other x) = elim (eqb_tells other x) [
      | inl same ↦ ap (λ b. b && nat_eq other x) (counts ∙ ap (λ z. not (list_any (nat_eq z) (take i xs)) && not (taken z)) (sym same.1))
      | inr apart ↦ rw (apart.0) (and_false is_counted ∙ sym (and_false (not among && not (taken other))))
    ] in
    numbers other (rw many here)
    ∙ ap (λ b. more b (get_or now other 0)) there
    ∙ ap (λ n. more ((not among && not (taken other)) && nat_eq other x) n) (before other here)
    ∙ once_more among (taken other) (nat_eq other x) (get_or row other 0)
    ∙ ap (λ b. more (b && not (taken other)) (get_or row other 0)) (sym (among_more xs i x other (next xs i x within is)))

-- none is above the highest
pub below_more : (xs : List ℕ) (i x highest : ℕ) → i < length xs → x ≡ get_or xs i 0 →
    ((other : ℕ) → highest < other → list_any (nat_eq other) (take i xs) ≡ false) →
    (other : ℕ) → max highest x < other → list_any (nat_eq other) (take (i + 1) xs) ≡ false
below_more xs i x highest within is below other above =
    let apart : nat_eq other x ≡ false = elim (eqb_tells other x) [
      | inl same ↦ absurd (omega (arith, above, same.1))
      | inr apart ↦ apart.0
    ] in
    among_more xs i x other (next xs i x within is) ∙ rw (below other (omega (arith, above)), apart) refl

-- what is counted now was not counted before
pub small_yet : (among taken is_counted : Bool) (n m bound : ℕ) → is_counted ≡ (not among && not taken) → is_counted ≡ true → m ≡ more (among && not taken) n → n < bound → m < bound
small_yet true taken is_counted n m bound counts holds is small = absurd (true≢false (sym holds ∙ counts))
small_yet false taken is_counted n m bound counts holds is small = omega (arith, is, small)
