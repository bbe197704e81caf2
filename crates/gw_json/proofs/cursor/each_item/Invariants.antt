-- What is read so far, then each of the rest, is each of all.
use Rattle.std.proofs.Common.{◌≡◌, map, drop}
use Rattle.serde_json.specs.View.{items_view}
use Rattle.gw_json.specs.Words.{each, after}
use Rattle.gw_json.specs.Fields.{nodes_from}
use Rattle.gw_json.proofs.cursor.each_item.Given as goal

abbrev pub invariant-items : goal.invariant-items
invariant-items g l = each (g.F.Form.of l.form) (nodes_from l.path 0 (items_view l.items)) ≡ after (map g.F.Form.seen l.values.items) (each (g.F.Form.of l.form) (nodes_from l.path l.index (items_view (drop l.index l.items))))
