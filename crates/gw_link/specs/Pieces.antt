-- Bytes that a source gives and a sink takes, piece by piece. Of an object that doesn't tell, None, nothing is said.
use Rattle.std.specs.Prelude.{◌≡◌, ℕ, ◌+◌, ◌≤◌, List, [], ◌++◌, length, take, Option, Some, None, option_map, IfSome}

-- What was left is the piece, and then what is left now.
abbrev pub Gives : Option (List ℕ) → List ℕ → Option (List ℕ) → Type 0
Gives None piece after = Unit {0}
Gives (Some before) piece after = Some before ≡ option_map (λ rest. piece ++ rest) after

-- Some piece was given, and the count of given bytes has risen by its length.
abbrev pub GivesPart : Option (List ℕ) → ℕ → Option (List ℕ) → ℕ → Type 0
GivesPart before given after given' = (piece : List ℕ) × (Gives before piece after × (given' ≡ given + length piece))

-- Where it tells, nothing is left.
abbrev pub IsAtEnd : Option (List ℕ) → Type 0
IsAtEnd left = IfSome left (λ rest. rest ≡ [])

-- The piece now stands behind what was written before.
abbrev pub Takes : Option (List ℕ) → List ℕ → Option (List ℕ) → Type 0
Takes before piece after = IfSome before (λ written. after ≡ Some (written ++ piece))

-- The first bytes of the piece, from none to all, now stand behind what was written before.
abbrev pub TakesPart : Option (List ℕ) → List ℕ → Option (List ℕ) → Type 0
TakesPart before piece after = (n : ℕ) × ((n ≤ length piece) × Takes before (take n piece) after)

-- What is told stays as it was.
abbrev pub Keeps : {A : Type 0} → Option A → Option A → Type 0
Keeps before after = IfSome before (λ told. after ≡ Some told)
