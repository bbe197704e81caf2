use Rattle.std.proofs.Common.{codes, rules}
use Rattle.std.proofs.lemmas.Result.{on_ok_weaker}
use Rattle.serde_json.specs.Data.{string, member, no_members}
use Rattle.gw_text.specs.model.Conditions.{reason_text, condition_kind_text}
use Rattle.gw_status.specs.Sending.{SendsPart}
use Rattle.gw_status.specs.StatusText.{truth_text}
use Rattle.gw_status.proofs.send.send_condition.Goals as goal

pub returns : goal.returns
returns g c =
    let written = g.S.Serializer.written in
    let condition = c.args.condition.now in
    let first = written c.begin_map.new.self in
    let second = written c.put_word.new.out in
    let third = written c.put_word-2.new.out in
    let last = written c.put_word-3.new.out in
    let end = written c.end_map.new.self in
    let reason : SendsPart (member (codes "reason") (string (reason_text condition.reason))) first second = search rules in
    let truth : SendsPart (member (codes "status") (string (truth_text condition.truth))) second third = search rules in
    let kind : SendsPart (member (codes "type") (string (condition_kind_text condition.kind))) third last = search rules in
    on_ok_weaker c.end_map.result (λ e.
    let rest = member (codes "type") (string (condition_kind_text condition.kind)) no_members in
    let two = member (codes "status") (string (truth_text condition.truth)) rest in
    (first, c.in_ok-begin_map.ensures, reason two end (truth rest end (kind no_members end e)))) c.end_map.ensures
