-- With the rest, too, all are stated.
use Rattle.std.proofs.Common.{◌≡◌, drop}
use Rattle.gw_stamp.specs.Entries.{stamp_at}
use Rattle.gw_stamp.specs.Stamping.{with_stated}
use Rattle.gw_stamp.proofs.stamps.Stamps.state_all.Given as goal

abbrev pub invariant-stated : goal.invariant-stated
invariant-stated l = with_stated l.at (drop l.condition-index l.stated) (stamp_at l.self) ≡ with_stated l.at l.stated (stamp_at l.fn.self)
