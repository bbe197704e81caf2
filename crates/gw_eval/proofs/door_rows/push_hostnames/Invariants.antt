-- The rows so far, and then those of the other hostnames, are those of all.
use Rattle.std.proofs.Common.{◌≡◌, ◌++◌, drop}
use Rattle.std.specs.Prelude.{flat_map}
use Rattle.gw_eval.specs.Candidates.{planned_hostname_rows}
use Rattle.gw_eval.proofs.door_rows.push_hostnames.Given as goal

abbrev pub invariant-hostnames : goal.invariant-hostnames
invariant-hostnames l =
    l.all.items ++ flat_map (planned_hostname_rows l.listener l.candidate) (drop l.hostname-index l.hostnames)
    ≡ l.fn.all.items ++ flat_map (planned_hostname_rows l.listener l.candidate) l.hostnames
