use Rattle.std.proofs.Common.{◌≡◌, length}
use Rattle.gw_snap_tests.proofs.readers.publish_often.Given as goal

abbrev pub invariant-changes : goal.invariant-changes
invariant-changes g l = (length l.publisher.pending ≡ l.count) × (l.publisher.fixed ≡ 7)
