use Rattle.std.proofs.Common.{◌≡◌, codes, rules}
use Rattle.std.proofs.lemmas.Result.{on_ok_weaker}
use Rattle.serde_json.specs.Data.{string, member, no_members}
use Rattle.serde_json.specs.Events.{SendsMembers}
use Rattle.gw_text.specs.model.Forms.{printed}
use Rattle.gw_status.specs.Sending.{SendsPart}
use Rattle.gw_status.specs.StatusText.{route_data, route_status_data}
use Rattle.gw_status.proofs.Parts.{same_text}
use Rattle.gw_status.proofs.send.send_route.Goals as goal

pub returns : goal.returns
unfolding route_data
returns g c =
    let written = g.S.Serializer.written in
    let key = c.args.status.now.key in
    let first = written c.begin_map.new.self in
    let middle = written c.put_text-2.new.out in
    let end = written c.end_map.new.self in
    let kind : SendsPart (member (codes "kind") (string (codes "HTTPRoute"))) first (written c.put_word.new.out) = search rules in
    let name_is : c.status-inside.inside.0.0.name ≡ key.name = search rules in
    let name = same_text (codes "name") _ _ _ _ name_is c.in_ok-put_text.ensures in
    let namespace_is : c.status-inside.inside.0.0.namespace ≡ key.namespace = search rules in
    let namespace = same_text (codes "namespace") _ _ _ _ namespace_is c.in_ok-put_text-2.ensures in
    on_ok_weaker c.end_map.result (λ e.
    let statuses = member (codes "status") (route_status_data c.args.status.now) no_members in
    let namespaces = member (codes "namespace") (string (printed key.namespace)) statuses in
    let names = member (codes "name") (string (printed key.name)) namespaces in
    let rest : SendsMembers statuses middle end = (written c.key.new.self, written c.send_route_status.new.out, c.in_ok-key.ensures, c.in_ok-send_route_status.ensures, e) in
    (first, c.in_ok-begin_map.ensures, kind names end (name namespaces end (namespace statuses end rest)))) c.end_map.ensures
