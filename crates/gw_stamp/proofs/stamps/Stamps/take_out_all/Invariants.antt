-- Without the rest, too, nothing of all is there.
use Rattle.std.proofs.Common.{◌≡◌, drop}
use Rattle.gw_stamp.specs.Entries.{stamp_at}
use Rattle.gw_stamp.specs.Stamping.{without_names}
use Rattle.gw_stamp.proofs.stamps.Stamps.take_out_all.Given as goal

abbrev pub invariant-names : goal.invariant-names
invariant-names l = without_names (drop l.name-index l.names) (stamp_at l.self) ≡ without_names l.names (stamp_at l.fn.self)
