-- The hostnames so far are those of the places so far.
use Rattle.std.proofs.Common.{◌≡◌, take}
use Rattle.gw_rows.specs.model.DoorRows.{meeting_hostnames}
use Rattle.gw_eval.proofs.hostnames.meeting.Given as goal

abbrev pub invariant-hosts : goal.invariant-hosts
invariant-hosts l = l.all.items ≡ meeting_hostnames l.listener (take l.place l.hosts)
