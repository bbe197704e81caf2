-- Equal weights, whose picks go round.
use Rattle.std.specs.Prelude.{◌≡◌, ℕ, ◌-◌, ◌%◌, ◌<◌, List, ◌++◌, Some, length, replicate, slice_get}
use Rattle.gw_text.specs.model.Picks.{ArePicks}

-- The numbers of so many weights of 1 where the first of them, up to the turn, were picked.
abbrev pub picked_before : ℕ → ℕ → List ℕ
picked_before count turn = replicate turn 1 ++ replicate (count - turn) 0

-- The law of equal weights: pick k is k where the count is above k, and from the last on they begin again.
abbrev pub ArePickedInTurn : Type 0
ArePickedInTurn =
    (count : ℕ) (picks : List ℕ) → 0 < count → ArePicks (replicate count 1) picks
    → (k : ℕ) → k < length picks → slice_get picks k ≡ Some (k % count)
