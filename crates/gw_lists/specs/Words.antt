-- The word by which threads share a list, and the step that adds to it.
use Rattle.std.specs.Prelude.{◌≡◌, ◌==◌, ℕ, true, List, [], ◌∷◌, ◌++◌, length, MatchBool}
use Rattle.logbook.specs.Pages.{Book, Cell, Named, Step, View}

-- The first of the book's two words is the length of the list. The second isn't used.
pub record IsCounted {C : Type 0} (cells : List Cell) (list : List C) : Type 0 where
  pub words : cells ≡ (length list, true) ∷ (0, true) ∷ []

-- The first word of a book.
abbrev pub head_of : Book → Named
head_of b = record { tracked = true; key = 0; book = b }

-- Where the word was the one expected, the list is all that had been seen and the change behind it.
abbrev pub Adds : {C : Type 0} → Step C → View C ℕ → ℕ → View C ℕ → Type 0
Adds step before found after = MatchBool (found == step.old) (after.0 ≡ before.0 ++ step.ask ∷ []) (Unit {0})
