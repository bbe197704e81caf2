-- Numbers that are pushed one after the other.
use Rattle.std.proofs.Common.{◌≡◌, ◌∙◌, ℕ, ◌+◌, ◌<◌, List, [], ◌∷◌, ◌++◌, get_or, length, arith, inl, inr}
use Rattle.std.proofs.lemmas.Bool.Decides.{eqb_tells}
use Rattle.std.proofs.lemmas.List.{get_or_append_left, get_or_push}

lower : (p n : ℕ) → p < n + 1 → (p ≡ n → ⊥) → p < n
lower p n within other = grind (arith, within, other)

-- a number more
pub numbers_more : (f : ℕ → ℕ) (xs : List ℕ) (n x : ℕ) → length xs ≡ n → x ≡ f n → ((p : ℕ) → p < n → get_or xs p 0 ≡ f p) → (p : ℕ) → p < n + 1 → get_or (xs ++ x ∷ []) p 0 ≡ f p
numbers_more f xs n x many is so p within = elim (eqb_tells p n) [
  | inl here ↦ (rw here.1 (get_or_push xs x 0 n many ∙ is))
  | inr other ↦ (let before = lower p n within other.1 in get_or_append_left xs (x ∷ []) 0 p (rw many before) ∙ so p before)
]
