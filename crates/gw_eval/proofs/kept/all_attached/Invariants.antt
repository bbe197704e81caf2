-- What is kept so far is that of the entries so far.
use Rattle.std.proofs.Common.{◌≡◌, map, take}
use Rattle.gw_eval.specs.Counting.{entries_in}
use Rattle.gw_eval.specs.Kept.{attached_of}
use Rattle.gw_eval.proofs.kept.all_attached.Given as goal

abbrev pub invariant-entries : goal.invariant-entries
invariant-entries l = l.all ≡ map attached_of (entries_in (take l.entry-index l.entries))
