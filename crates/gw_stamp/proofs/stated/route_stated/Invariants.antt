-- The conditions so far, with those of the rest, are all.
use Rattle.std.proofs.Common.{◌≡◌, ◌++◌, [], drop, take}
use Rattle.gw_stamp.specs.Stated.{parents_stated}
use Rattle.gw_stamp.proofs.stated.route_stated.Given as goal

abbrev pub invariant-parents : goal.invariant-parents
invariant-parents l =
    l.stated ++ parents_stated l.status.key (take l.index l.parents) (drop l.index l.parents) ≡ parents_stated l.status.key [] l.parents
