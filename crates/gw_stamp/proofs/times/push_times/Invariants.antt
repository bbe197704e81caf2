-- The times so far, with those of the rest, are those of all.
use Rattle.std.proofs.Common.{◌≡◌, ◌++◌, drop}
use Rattle.gw_stamp.specs.Entries.{stamp_at}
use Rattle.gw_stamp.specs.Stamping.{times_in}
use Rattle.gw_stamp.proofs.times.push_times.Given as goal

abbrev pub invariant-stated : goal.invariant-stated
invariant-stated l = l.times ++ times_in (stamp_at l.stamps) (drop l.condition-index l.stated) ≡ l.fn.times ++ times_in (stamp_at l.stamps) l.stated
