-- A place, where a listener takes the Route.
use Rattle.std.specs.Prelude.{ℕ, List, [], ◌∷◌, Bool, true, false}

-- The place, or none.
abbrev pub place_if : Bool → ℕ → List ℕ
place_if true place = place ∷ []
place_if false place = []
