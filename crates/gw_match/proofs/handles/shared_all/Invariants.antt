-- Those so far are on the heap.
use Rattle.std.proofs.Common.{◌≡◌}
use Rattle.gw_match.proofs.handles.shared_all.Given as goal

abbrev pub invariant-items : goal.invariant-items
invariant-items g l = l.shared.items ≡ l.yielded
