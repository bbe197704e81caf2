-- What a refused decision leaves of the books.
use Rattle.std.specs.Prelude.{◌≡◌, ℕ, ◌⊎◌, List, []}
use Rattle.gw_answers.specs.declared.books.Books.{Books}
use Rattle.gw_text.specs.model.Picks.{Choice}

-- A book is as before, as after the request, or empty.
abbrev pub IsLeft : List (Choice × List ℕ) → List (Choice × List ℕ) → List (Choice × List ℕ) → Type 0
IsLeft before after left = (left ≡ before) ⊎ ((left ≡ after) ⊎ (left ≡ []))

-- Both books.
pub record AreLeft (before after left : Books) : Type 0 where
  pub backends : IsLeft before.backends after.backends left.backends
  pub endpoints : IsLeft before.endpoints after.endpoints left.endpoints
