-- A change at one place, undone.
use Rattle.std.proofs.Common.{◌≡◌, ◌∙◌, ◌<◌, ◌≤◌, ℕ, zero, suc, List, [], ◌∷◌, length, get_or, set, Some, refl, ap, arith}
use Rattle.std.specs.List.{insert, remove, slice_get}
use Rattle.std.proofs.lemmas.List.{set-set, set-get_or}

module _ {X : Type 0} where
  -- an item that was put in the place of another
  pub set_back : (xs : List X) (i : ℕ) (y d : X) → set (set xs i y) i (get_or xs i d) ≡ xs
  set_back xs i y d = set-set xs i y (get_or xs i d) ∙ set-get_or xs i d

  -- it stands there
  pub there_set : (xs : List X) (i : ℕ) (y : X) → i < length xs → slice_get (set xs i y) i ≡ Some y
  there_set [] i y within = absurd (omega arith)
  there_set (x ∷ xs) zero y within = refl
  there_set (x ∷ xs) (suc i) y within = there_set xs i y (omega arith)

  -- one that was put between others
  pub insert_back : (xs : List X) (i : ℕ) (y : X) → i ≤ length xs → remove (insert xs i y) i ≡ xs
  insert_back [] zero y within = refl
  insert_back [] (suc i) y within = absurd (omega arith)
  insert_back (x ∷ xs) zero y within = refl
  insert_back (x ∷ xs) (suc i) y within = ap (λ t. x ∷ t) (insert_back xs i y (omega arith))

  pub there_insert : (xs : List X) (i : ℕ) (y : X) → i ≤ length xs → slice_get (insert xs i y) i ≡ Some y
  there_insert xs zero y within = refl
  there_insert [] (suc i) y within = absurd (omega arith)
  there_insert (x ∷ xs) (suc i) y within = there_insert xs i y (omega arith)

  -- one that was taken away
  pub remove_back : (xs : List X) (i : ℕ) (d : X) → i < length xs → insert (remove xs i) i (get_or xs i d) ≡ xs
  remove_back [] i d within = absurd (omega arith)
  remove_back (x ∷ xs) zero d within = refl
  remove_back (x ∷ xs) (suc i) d within = ap (λ t. x ∷ t) (remove_back xs i d (omega arith))
