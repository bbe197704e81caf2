-- Those that are shared, and then the rest, are all.
use Rattle.std.proofs.Common.{◌≡◌, ◌++◌, drop}
use Rattle.gw_kept.proofs.held.shared_doors.Given as goal

abbrev pub invariant-doors : goal.invariant-doors
invariant-doors l = l.all.items ++ drop l.door-index l.doors ≡ l.doors
