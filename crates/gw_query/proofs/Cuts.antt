-- A text cut at the first byte that passes, and what is first in two lists.
use Rattle.std.proofs.Common.{◌≡◌, ◌∙◌, sym, ap, ℕ, ◌+◌, ◌<◌, ◌≤◌, Bool, List, [], ◌∷◌, ◌++◌, length, take, drop, None, Some, find, arith}
use Rattle.std.proofs.lemmas.List.Folds.{find-append}
use Rattle.std.proofs.lemmas.List.Splits.{slice_split_first, slice_split_none}
use Rattle.std.proofs.lemmas.List.Sums.{fails_before_first}
use Rattle.std.specs.List.{position_or_len, slice_split}
use Rattle.std.specs.Option.{option_or}

-- The parts, cut at the first byte that passes.
pub cut_at : (p : ℕ → Bool) (xs : List ℕ) (at : ℕ) → at ≡ position_or_len p xs → at < length xs → slice_split p xs ≡ take at xs ∷ slice_split p (drop (at + 1) xs)
cut_at p xs at is within = rw is (slice_split_first p xs 0 (rw is at within))

-- One part, where none passes.
pub cut_nowhere : (p : ℕ → Bool) (xs : List ℕ) (at : ℕ) → at ≡ position_or_len p xs → length xs ≤ at → slice_split p xs ≡ xs ∷ []
cut_nowhere p xs at is beyond = slice_split_none p xs (λ k d lt. fails_before_first p xs k d (omega arith))

-- What is found in the first of two lists is the first of both.
pub found_in_front : {X : Type 0} (test : X → Bool) (front back all : List X) {x : X} → all ≡ front ++ back → find test front ≡ Some x → Some x ≡ find test all
found_in_front test front back all is found =
    sym (ap (find test) is ∙ find-append test front back ∙ ap (λ first. option_or first (find test back)) found)

-- Where the first of two lists has none, that of the second is the first of both.
pub found_behind : {X : Type 0} (test : X → Bool) (front back all : List X) → all ≡ front ++ back → find test front ≡ None → find test all ≡ find test back
found_behind test front back all is missing =
    ap (find test) is ∙ find-append test front back ∙ ap (λ first. option_or first (find test back)) missing
