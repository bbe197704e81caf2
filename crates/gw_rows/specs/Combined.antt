-- How the combined value of fields is compared without being put together: value by value, each but the first behind a comma.
use Rattle.std.specs.Prelude.{◌≡◌, ℕ, List, [], ◌∷◌, ◌++◌, Bool, true, false, bytes_eq}

-- A value, behind a comma where one came before.
abbrev pub behind : Bool → List ℕ → List ℕ
behind false value = value
behind true value = 44 ∷ value

-- The values in a row.
abbrev pub in_a_row : Bool → List (List ℕ) → List ℕ
in_a_row found [] = []
in_a_row found (value ∷ values) = behind found value ++ in_a_row true values

-- The text begins so, and this is what is left of it.
abbrev pub Continues : List ℕ → List ℕ → List ℕ → Type 0
Continues text front left = (more : List ℕ) → bytes_eq (front ++ more) text ≡ bytes_eq more left

-- The text doesn't begin so.
abbrev pub Differs : List ℕ → List ℕ → Type 0
Differs text front = (more : List ℕ) → bytes_eq (front ++ more) text ≡ false
