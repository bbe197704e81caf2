-- A hostname more stands among them, or doesn't.
use Rattle.std.proofs.Common.{◌≡◌, ◌<◌, sym, rules, length, get_or}
use Rattle.gw_eval.proofs.Meeting.{meeting_more}
use Rattle.gw_eval.proofs.hostnames.meeting.Goals as goal

pub hosts-preserved : goal.hosts-preserved
hosts-preserved c =
    let hosts = c.args.hosts.now in
    let i = c.hosts.place in
    let host = c.index-hosts-place.result in
    let within : i < length hosts = search rules in
    let here : host ≡ get_or hosts i host = search rules in
    rw (c.in_ok-push_meeting.ensures, c.hosts.invariant) (sym (meeting_more c.args.listener.now hosts i host within here))
