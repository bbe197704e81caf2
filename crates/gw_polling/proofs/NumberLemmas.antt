-- Numbers of connections.
use Rattle.std.proofs.Common.{◌≡◌, ℕ, zero, suc, ◌+◌, ◌<◌, ◌≤◌, ◌==◌, ◌||◌, Bool, true, false, not, cond, List, [], ◌∷◌, ◌++◌, length, refl, ap, ◌∙◌, arith}
use Rattle.std.specs.List.{range_with_len}
use Rattle.std.proofs.lemmas.Bool.Decides.{nat_tests}
use Rattle.gw_polling.specs.Rings.{is_among, without}

-- One number more from a on.
range_more : (a n : ℕ) → range_with_len a (suc n) ≡ range_with_len a n ++ (a + n) ∷ []
range_more a zero =
    let same : a ≡ a + 0 = omega arith in
    ap (λ k. k ∷ []) same
range_more a (suc n) =
    let last : a + 1 + n ≡ a + suc n = omega arith in
    ap (λ t. a ∷ t) (range_more (a + 1) n ∙ ap (λ k. range_with_len (a + 1) n ++ k ∷ []) last)

-- The next number behind those from 0 on.
pub given_more : (n : ℕ) → range_with_len 0 (n + 1) ≡ range_with_len 0 n ++ n ∷ []
given_more n =
    let next : n + 1 ≡ suc n = omega arith in
    let same : 0 + n ≡ n = omega arith in
    ap (λ k. range_with_len 0 k) next ∙ range_more 0 n ∙ ap (λ k. range_with_len 0 n ++ k ∷ []) same

above_all : (a n m : ℕ) → a + n ≤ m → is_among m (range_with_len a n) ≡ false
above_all a zero m above = refl
above_all a (suc n) m above =
    let other : (a == m) ≡ false = grind (arith, nat_tests) in
    ap (λ b. b || is_among m (range_with_len (a + 1) n)) other ∙ above_all (a + 1) n m (omega (arith, above))

-- The next number isn't among those before it.
pub next_is_new : (n : ℕ) → is_among n (range_with_len 0 n) ≡ false
next_is_new n = above_all 0 n n (omega arith)

-- Nothing is taken away of numbers among which it isn't.
pub without_other : (number : ℕ) (numbers : List ℕ) → is_among number numbers ≡ false → without number numbers ≡ numbers
without_other number [] none = refl
without_other number (other ∷ numbers) none = by (other == number) none (without_other number numbers)
  where
    by : (same : Bool) → (same || is_among number numbers) ≡ false → (is_among number numbers ≡ false → without number numbers ≡ numbers)
        → cond (not same) (other ∷ without number numbers) (without number numbers) ≡ other ∷ numbers
    by true none rest = absurd (cc none)
    by false none rest = ap (λ t. other ∷ t) (rest none)

without_fits : (number : ℕ) (numbers : List ℕ) → length (without number numbers) ≤ length numbers
without_fits number [] = omega arith
without_fits number (other ∷ numbers) = by (other == number) (without_fits number numbers)
  where
    by : (same : Bool) → length (without number numbers) ≤ length numbers
        → length (cond (not same) (other ∷ without number numbers) (without number numbers)) ≤ length (other ∷ numbers)
    by true fits = omega (arith, fits)
    by false fits = omega (arith, fits)

-- Fewer are left of numbers among which it is.
pub without_fewer : (number : ℕ) (numbers : List ℕ) → is_among number numbers ≡ true → length (without number numbers) < length numbers
without_fewer number [] some = absurd (cc some)
without_fewer number (other ∷ numbers) some = by (other == number) some (without_fewer number numbers) (without_fits number numbers)
  where
    by : (same : Bool) → (same || is_among number numbers) ≡ true
        → (is_among number numbers ≡ true → length (without number numbers) < length numbers)
        → length (without number numbers) ≤ length numbers
        → length (cond (not same) (other ∷ without number numbers) (without number numbers)) < length (other ∷ numbers)
    by true some rest fits = omega (arith, fits)
    by false some rest fits = omega (arith, rest some)
