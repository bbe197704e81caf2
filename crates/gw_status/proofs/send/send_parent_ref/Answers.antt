use Rattle.std.proofs.Common.{◌≡◌, codes, Some, subst, rules}
use Rattle.std.proofs.lemmas.Result.{on_ok_weaker}
use Rattle.serde.specs.Event.{Logs, map_begins}
use Rattle.serde_json.specs.Data.{string, member, number, unsigned, no_members}
use Rattle.serde_json.specs.Events.{members_len, SendsMembers}
use Rattle.gw_text.specs.model.Forms.{printed}
use Rattle.gw_text.specs.model.Kinds.{gateway_group}
use Rattle.gw_status.specs.Sending.{given_first, SendsPart}
use Rattle.gw_status.specs.StatusText.{parent_ref_members}
use Rattle.gw_status.proofs.Parts.{parent_ref_in_order, same_text}
use Rattle.gw_status.proofs.send.send_parent_ref.Goals as goal

pub returns : goal.returns
unfolding gateway_group
returns g c =
    let written = g.S.Serializer.written in
    let status = c.args.status.now in
    let first = written c.begin_map.new.self in
    let end = written c.end_map.new.self in
    let begun : Logs (written c.args.out.now) first (map_begins (Some (members_len (parent_ref_members status)))) = search rules in
    let group : SendsPart (member (codes "group") (string gateway_group)) first (written c.put_word.new.out) = search rules in
    let kind : SendsPart (member (codes "kind") (string (codes "Gateway"))) (written c.put_word.new.out) (written c.put_word-2.new.out) = search rules in
    let name_is : c.text.result.now ≡ status.name = search rules in
    let name = same_text (codes "name") _ _ _ _ name_is c.in_ok-put_text.ensures in
    let namespace_is : c.deref.result.now ≡ status.namespace = search rules in
    let namespace = same_text (codes "namespace") _ _ _ _ namespace_is c.in_ok-put_text-2.ensures in
    let port : SendsPart (given_first (codes "port") (λ port. number (unsigned port)) status.port) (written c.put_text-2.new.out) (written c.put_port.new.out) = search rules in
    let section : SendsPart (given_first (codes "sectionName") (λ name. string (printed name)) status.section) (written c.put_port.new.out) (written c.put_section.new.out) = search rules in
    on_ok_weaker c.end_map.result (λ e.
    let sections = given_first (codes "sectionName") (λ name. string (printed name)) status.section no_members in
    let ports = given_first (codes "port") (λ port. number (unsigned port)) status.port sections in
    let namespaces = member (codes "namespace") (string (printed status.namespace)) ports in
    let names = member (codes "name") (string (printed status.name)) namespaces in
    let kinds = member (codes "kind") (string (codes "Gateway")) names in (
      first,
      begun,
      subst (λ ms. SendsMembers ms first end) (parent_ref_in_order status)
          (group kinds end (kind names end (name namespaces end (namespace ports end (port sections end (section no_members end e)))))),
    )) c.end_map.ensures
