-- Counts of faults: they never fall, and rise where a call fails.
use Rattle.std.specs.Prelude.{ℕ, ◌+◌, ◌<◌, ◌≤◌, ◌⊎◌, nat_lt, if◌then◌else◌, Result, OnErr}

-- The last number that a count of 64 bits holds. A count that has come there stays there.
abbrev pub last_count : ℕ
last_count = 18446744073709551615

-- One more; a count that stands at its last number stays as it is.
abbrev pub one_more : ℕ → ℕ
one_more count = if nat_lt count last_count then count + 1 else count

-- The count has risen. One that stands at its last number counts as risen by any number.
abbrev pub HasRisen : ℕ → ℕ → Type 0
HasRisen before now = (before < now) ⊎ (last_count ≤ now)

-- A call with this result leaves the count: never lower, and risen where the call failed.
pub record Counts {T E : Type 0} (before now : ℕ) (result : Result T E) : Type 0 where
  pub later : before ≤ now
  pub failed : OnErr result (HasRisen before now)
