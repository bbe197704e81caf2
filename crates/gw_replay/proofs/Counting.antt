-- Rows by their statuses.
use Rattle.std.proofs.Common.{◌≡◌, ◌∙◌, ℕ, zero, suc, ◌+◌, ◌<◌, ◌≤◌, ◌==◌, Bool, true, false, cond, List, [], ◌∷◌, ◌++◌, length, get_or, set, refl, sym, subst, ap, arith, fold}
use Rattle.std.proofs.lemmas.Bool.Decides.{nat_tests}
use Rattle.gw_replay.specs.Lines.{counts_of, one_more}
use Rattle.gw_replay.specs.States.{AreAtMost}

weaker : (most : ℕ) (counts : List (ℕ × ℕ)) → AreAtMost most counts → AreAtMost (most + 1) counts
weaker most [] few = tt
weaker most (e ∷ counts) few = (omega (arith, few.0), weaker most counts few.1)

-- a count more
pub at_most_more : (most : ℕ) (counts : List (ℕ × ℕ)) (code : ℕ) → AreAtMost most counts → AreAtMost (most + 1) (one_more counts code)
at_most_more most [] code few = (omega arith, tt)
at_most_more most (e ∷ counts) code few = go (e.0 == code) (at_most_more most counts code few.1)
  where
    go : (b : Bool) → AreAtMost (most + 1) (one_more counts code) → AreAtMost (most + 1) (cond b ((e.0, e.1 + 1) ∷ counts) (e ∷ one_more counts code))
    go true more = (omega (arith, few.0), weaker most counts few.1)
    go false more = (omega (arith, few.0), more)

-- a count of the list
pub at_most_at : (most : ℕ) (counts : List (ℕ × ℕ)) (place : ℕ) (e : ℕ × ℕ) → AreAtMost most counts → place < length counts → e ≡ get_or counts place e → e.1 ≤ most
at_most_at most [] place e few within is = absurd (omega (arith, within))
at_most_at most (f ∷ counts) zero e few within is = subst (λ (x : ℕ × ℕ). x.1 ≤ most) (sym is) few.0
at_most_at most (f ∷ counts) (suc place) e few within is = at_most_at most counts place e few.1 (omega (arith, within)) is

-- one item, whatever stands for those behind the last
pub same_item : (counts : List (ℕ × ℕ)) (place : ℕ) (a b : ℕ × ℕ) → place < length counts → a ≡ get_or counts place a → b ≡ get_or counts place b → a ≡ b
same_item [] place a b within first second = absurd (omega (arith, within))
same_item (f ∷ counts) zero a b within first second = first ∙ sym second
same_item (f ∷ counts) (suc place) a b within first second = same_item counts place a b (omega (arith, within)) first second

same_code : (a b : ℕ) → a ≡ b → (a == b) ≡ true
same_code a b is = grind (arith, nat_tests, is)

-- the first that is the status's
pub counted_at : (counts : List (ℕ × ℕ)) (place code : ℕ) (e : ℕ × ℕ) → ((k : ℕ) → k < place → ((get_or counts k (0, 0)).0 == code) ≡ false)
    → e.0 ≡ code → place < length counts → e ≡ get_or counts place e → set counts place (e.0, e.1 + 1) ≡ one_more counts code
counted_at [] place code e others is within at = absurd (omega (arith, within))
counted_at (f ∷ counts) zero code e others is within at =
    subst (λ (x : ℕ × ℕ). ((e.0, e.1 + 1) ∷ counts) ≡ one_more (x ∷ counts) code) at (rw (same_code e.0 code is) refl)
counted_at (f ∷ counts) (suc place) code e others is within at =
    rw (others zero (omega arith)) (ap (λ (rest : List (ℕ × ℕ)). f ∷ rest) (counted_at counts place code e (λ k lt. others (suc k) (omega (arith, lt))) is (omega (arith, within)) at))

-- none is
pub counted_behind : (counts : List (ℕ × ℕ)) (code : ℕ) → ((k : ℕ) → k < length counts → ((get_or counts k (0, 0)).0 == code) ≡ false)
    → counts ++ (code, 1) ∷ [] ≡ one_more counts code
counted_behind [] code others = refl
counted_behind (e ∷ counts) code others =
    rw (others zero (omega arith)) (ap (λ (rest : List (ℕ × ℕ)). e ∷ rest) (counted_behind counts code (λ k lt. others (suc k) (omega (arith, lt)))))

-- a status more
counts_more : (counts : List (ℕ × ℕ)) (codes : List ℕ) (code : ℕ) → fold one_more counts (codes ++ code ∷ []) ≡ one_more (fold one_more counts codes) code
counts_more counts [] code = refl
counts_more counts (c ∷ codes) code = counts_more (one_more counts c) codes code

pub counts_of-more : (codes : List ℕ) (code : ℕ) → counts_of (codes ++ code ∷ []) ≡ one_more (counts_of codes) code
counts_of-more codes code = counts_more [] codes code
