-- A count of faults over several calls.
use Rattle.std.proofs.Common.{ℕ, ◌≤◌, inl, inr, arith}
use Rattle.gw_link.specs.Faults.{HasRisen}

-- A count that rises in a later call has risen since an earlier one.
pub HasRisen-then : (first before now : ℕ) → first ≤ before → HasRisen before now → HasRisen first now
HasRisen-then first before now later (inl rose) = inl (omega arith)
HasRisen-then first before now later (inr full) = inr full

-- A count that has risen has still risen after later calls.
pub HasRisen-still : (before middle now : ℕ) → HasRisen before middle → middle ≤ now → HasRisen before now
HasRisen-still before middle now (inl rose) later = inl (omega arith)
HasRisen-still before middle now (inr full) later = inr (omega arith)
