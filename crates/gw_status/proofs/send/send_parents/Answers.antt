use Rattle.std.proofs.Common.{◌≡◌, [], length, drop, map, Some, sym, ◌∙◌, subst, arith}
use Rattle.std.proofs.lemmas.List.{drop_all, length-map}
use Rattle.std.proofs.lemmas.Result.{on_ok_weaker}
use Rattle.serde.specs.Event.{Logs, seq_begins}
use Rattle.serde_json.specs.View.{items_of}
use Rattle.serde_json.specs.Events.{items_len, SendsItems}
use Rattle.gw_status.specs.StatusText.{parent_data}
use Rattle.gw_status.proofs.Parts.{items_len-items_of}
use Rattle.gw_status.proofs.send.send_parents.Goals as goal

pub returns : goal.returns
returns g c =
    let written = g.S.Serializer.written in
    let statuses = c.args.statuses.now in
    let first = written c.begin_seq.new.self in
    let end = written c.end_seq.new.self in
    let len : length statuses ≡ items_len (items_of (map parent_data statuses)) =
    sym (items_len-items_of (map parent_data statuses) ∙ length-map statuses parent_data) in
    let begun = subst (λ n. Logs (written c.args.out.now) first (seq_begins (Some n))) len c.in_ok-begin_seq.ensures in
    let none : drop c.statuses.status-index statuses ≡ [] = drop_all c.statuses.status-index statuses (omega arith) in
    on_ok_weaker c.end_seq.result (λ e. (
      first,
      begun,
      c.statuses.invariant end (subst (λ xs. SendsItems (items_of (map parent_data xs)) (written c.statuses.out) end) (sym none) e),
    )) c.end_seq.ensures
