-- Whatever ends the rest well ends the whole well.
use Rattle.std.proofs.Common.{map, drop}
use Rattle.serde.specs.Event.{Log}
use Rattle.serde_json.specs.View.{items_of}
use Rattle.serde_json.specs.Events.{SendsItems}
use Rattle.gw_status.specs.StatusText.{parent_data}
use Rattle.gw_status.proofs.send.send_parents.Given as goal

abbrev pub invariant-statuses : goal.invariant-statuses
invariant-statuses g l =
    (end : Log) → SendsItems (items_of (map parent_data (drop l.status-index l.statuses))) (g.S.Serializer.written l.out) end
    → SendsItems (items_of (map parent_data l.statuses)) (g.S.Serializer.written l.initial.out) end
