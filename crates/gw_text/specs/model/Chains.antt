-- Steps of which each needs the one before.
use Rattle.std.specs.Prelude.{Option, Some, None}

-- What follows a value, where there is one: what `do` means for values that may be absent.
infixl 10 ◌>>=◌
abbrev pub ◌>>=◌ : {A B : Type 0} → Option A → (A → Option B) → Option B
None >>= next = None
Some a >>= next = next a
