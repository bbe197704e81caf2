-- What is kept so far, and the rest, is what was kept and all.
use Rattle.std.proofs.Common.{◌≡◌, ◌++◌, drop}
use Rattle.gw_shared.proofs.spliced.push_handles.Given as goal

abbrev pub invariant-handles : goal.invariant-handles
invariant-handles g l = l.kept.items ++ drop l.handle-index l.handles ≡ l.initial.kept.items ++ l.handles
