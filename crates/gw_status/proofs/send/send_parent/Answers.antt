use Rattle.std.proofs.Common.{codes, rules}
use Rattle.std.proofs.lemmas.Result.{on_ok_weaker}
use Rattle.serde_json.specs.Data.{string, member, object, no_members}
use Rattle.serde_json.specs.Events.{SendsMembers}
use Rattle.gw_text.specs.model.Forms.{printed}
use Rattle.gw_status.specs.Sending.{SendsPart}
use Rattle.gw_status.specs.StatusText.{parent_ref_members, parent_data}
use Rattle.gw_status.proofs.send.send_parent.Goals as goal

pub returns : goal.returns
unfolding parent_data
returns g c =
    let written = g.S.Serializer.written in
    let status = c.args.status.now in
    let first = written c.begin_map.new.self in
    let middle = written c.put_text.new.out in
    let end = written c.end_map.new.self in
    let controller : SendsPart (member (codes "controllerName") (string (printed status.controller))) (written c.send_conditions.new.out) middle = search rules in
    on_ok_weaker c.end_map.result (λ e.
    let rest : SendsMembers (member (codes "parentRef") (object (parent_ref_members status)) no_members) middle end =
    (written c.key-2.new.self, written c.send_parent_ref.new.out, c.in_ok-key-2.ensures, c.in_ok-send_parent_ref.ensures, e) in (
      first,
      c.in_ok-begin_map.ensures,
      (
        written c.key.new.self,
        written c.send_conditions.new.out,
        c.in_ok-key.ensures,
        c.in_ok-send_conditions.ensures,
        controller (member (codes "parentRef") (object (parent_ref_members status)) no_members) end rest,
      ),
    )) c.end_map.ensures
