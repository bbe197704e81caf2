-- Where an input is cut.
use Rattle.std.proofs.Common.{◌≡◌, ℕ, ◌+◌, ◌<◌, ◌≤◌, Bool, true, false, cond, List, [], ◌∷◌, length, take, drop, Option, None, Some, refl, sym, ap, nat_lt, position, arith}
use Rattle.std.specs.List.{slice_split, position_or_len}
use Rattle.std.proofs.lemmas.List.Splits.{slice_split_first, slice_split_none}
use Rattle.std.proofs.lemmas.List.Sums.{fails_before_first, position_or_len_is}
use Rattle.memchr.specs.Find.{IsFirstByte}
use Rattle.std.proofs.lemmas.Bool.{ltb-true, ltb-false, lt-ltb, le-ltb}

some_parts : (b : Bool) (n at : ℕ) → cond b (Some n) None ≡ Some at → (b ≡ true) × (n ≡ at)
some_parts true n at e = (refl, cc)
some_parts false n at e = cc

none_part : (b : Bool) (n : ℕ) → cond b (Some n) None ≡ None → b ≡ false
none_part true n e = cc
none_part false n e = refl

-- at the first element that passes
pub cut_at : (p : ℕ → Bool) (xs : List ℕ) (at : ℕ) → position p xs ≡ Some at → slice_split p xs ≡ take at xs ∷ slice_split p (drop (at + 1) xs)
cut_at p xs at e =
    let parts : (nat_lt (position_or_len p xs) (length xs) ≡ true) × (position_or_len p xs ≡ at) = some_parts _ _ _ e in
    rw parts.1 at (slice_split_first p xs 0 (ltb-true _ _ parts.0))

-- nowhere, where none passes
pub cut_nowhere : (p : ℕ → Bool) (xs : List ℕ) → position p xs ≡ None → slice_split p xs ≡ xs ∷ []
cut_nowhere p xs e =
    let all : length xs ≤ position_or_len p xs = ltb-false _ _ (none_part _ _ e) in
    slice_split_none p xs (λ k d lt. fails_before_first p xs k d (omega arith))

fails : (b : Bool) → ¬ (b ≡ true) → b ≡ false
fails true h = absurd (h refl)
fails false h = refl

some_at : (n len : ℕ) → n < len → Some n ≡ cond (nat_lt n len) (Some n) None
some_at n len lt = sym (ap (λ b. cond b (Some n) None) (lt-ltb n len lt))

none_at : (len : ℕ) → None ≡ cond (nat_lt len len) (Some len) None
none_at len = sym (ap (λ b. cond b (Some len) None) (le-ltb len len (omega arith)))

-- the first byte that passes stands at the first place that passes
pub first_is : (p : ℕ → Bool) (xs : List ℕ) (r : Option ℕ) → IsFirstByte p xs r → r ≡ position p xs
first_is p xs (Some k) h =
    let at : position_or_len p xs ≡ k = position_or_len_is p xs k 0 (omega arith) (λ j lt. fails _ (h.0.before j (omega arith) lt)) (λ _. h.1) in
    rw at (some_at k (length xs) h.0.high)
first_is p xs None h =
    let at : position_or_len p xs ≡ length xs = position_or_len_is p xs (length xs) 0 (omega arith) (λ j lt. fails _ (h j (omega arith) lt)) (λ lt. absurd (omega arith)) in
    rw at (none_at (length xs))
