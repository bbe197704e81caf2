use Rattle.std.proofs.Common.{◌≡◌, subst, rules}
use Rattle.std.proofs.lemmas.Result.{on_ok_weaker}
use Rattle.serde_json.specs.Events.{SendsValue}
use Rattle.gw_status.specs.StatusText.{condition_data}
use Rattle.gw_status.proofs.send.send_conditions.Goals as goal

pub returns : goal.returns
returns g c =
    let written = g.S.Serializer.written in
    let status = c.args.status.now in
    let first = written c.begin_seq.new.self in
    let second = written c.send_condition.new.out in
    let last = written c.send_condition-2.new.out in
    let accepted : c.status.inside.accepted ≡ status.accepted = search rules in
    let resolved : c.status.inside.resolved ≡ status.resolved = search rules in
    on_ok_weaker c.end_seq.result (λ e. (
      first,
      c.in_ok-begin_seq.ensures,
      (
        second,
        subst (λ x. SendsValue (condition_data x) first second) accepted c.in_ok-send_condition.ensures,
        (last, subst (λ x. SendsValue (condition_data x) second last) resolved c.in_ok-send_condition-2.ensures, e),
      ),
    )) c.end_seq.ensures
