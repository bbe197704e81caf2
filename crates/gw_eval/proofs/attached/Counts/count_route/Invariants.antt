-- The Route is counted by the entries so far.
use Rattle.std.proofs.Common.{take}
use Rattle.gw_eval.specs.Counting.{AreCounted}
use Rattle.gw_eval.proofs.attached.Counts.count_route.Given as goal

abbrev pub invariant-entries : goal.invariant-entries
invariant-entries l = AreCounted l.fn.self (take l.index l.entries) l.self
