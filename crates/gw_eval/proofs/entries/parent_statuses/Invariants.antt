-- The statuses so far are those of the entries so far.
use Rattle.std.proofs.Common.{◌≡◌, map, take}
use Rattle.gw_text.specs.model.Statuses.{parent_status_of}
use Rattle.gw_eval.specs.Counting.{entries_in}
use Rattle.gw_eval.proofs.entries.parent_statuses.Given as goal

abbrev pub invariant-entries : goal.invariant-entries
invariant-entries l = l.all.items ≡ map (parent_status_of l.controller l.resolved) (entries_in (take l.entry-index l.entries))
