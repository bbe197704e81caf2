-- Moments that a clock gives, in seconds from 1970-01-01T00:00:00Z.
use Rattle.std.specs.Prelude.{◌≡◌, ℤ, List, [], ◌∷◌, Option, Some, None}

-- The clock was asked once: it gave the first of the moments to come, and the others are to come.
-- A clock that tells nothing, or whose moments are used up, stays so and may give any moment.
abbrev pub Ticks : Option (List ℤ) → ℤ → Option (List ℤ) → Type 0
Ticks None now after = after ≡ None
Ticks (Some []) now after = after ≡ Some []
Ticks (Some (moment ∷ moments)) now after = (now ≡ moment) × (after ≡ Some moments)

-- The clock was asked once for each of these moments, in turn.
abbrev pub TicksInTurn : Option (List ℤ) → List ℤ → Option (List ℤ) → Type 0
TicksInTurn before [] after = after ≡ before
TicksInTurn before (now ∷ moments) after = (between : Option (List ℤ)) × (Ticks before now between × TicksInTurn between moments after)
