-- Links that an acceptor gives, and links that it has closed. Of an acceptor that doesn't tell, None, nothing is said.
use Rattle.std.specs.Prelude.{◌≡◌, ℕ, List, [], ◌∷◌, ◌++◌, Option, Some, None, IfSome}

-- What a link tells: the bytes left to be read, and the bytes written.
pub record Told : Type 0 where
  pub left : Option (List ℕ)
  pub written : Option (List ℕ)

-- The first of the links to come was given, and the others are to come. None was given exactly where none is left.
abbrev pub GivesNext : Option (List Told) → Option Told → Option (List Told) → Type 0
GivesNext None next after = Unit {0}
GivesNext (Some []) next after = (next ≡ None) × (after ≡ Some [])
GivesNext (Some (link ∷ links)) next after = (next ≡ Some link) × (after ≡ Some links)

-- The link stands behind those that were closed before.
abbrev pub Closes : Option (List Told) → Told → Option (List Told) → Type 0
Closes before link after = IfSome before (λ closed. after ≡ Some (closed ++ link ∷ []))
