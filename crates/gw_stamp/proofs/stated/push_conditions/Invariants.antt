-- The conditions so far, with the rest, are all.
use Rattle.std.proofs.Common.{◌≡◌, ◌++◌, drop}
use Rattle.gw_stamp.specs.Stated.{conditions_at}
use Rattle.gw_stamp.proofs.stated.push_conditions.Given as goal

abbrev pub invariant-conditions : goal.invariant-conditions
invariant-conditions l =
    l.stated ++ conditions_at l.owner l.key l.part (drop l.condition-index l.conditions) ≡ l.fn.stated ++ conditions_at l.owner l.key l.part l.conditions
