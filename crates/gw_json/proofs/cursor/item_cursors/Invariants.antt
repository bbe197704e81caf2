use Rattle.std.proofs.Common.{◌≡◌, ◌++◌, map, drop}
use Rattle.serde_json.specs.View.{items_view}
use Rattle.gw_json.specs.Fields.{node_of, nodes_from}
use Rattle.gw_json.proofs.cursor.item_cursors.Given as goal

-- what came, and what is still to come
abbrev pub invariant-items : goal.invariant-items
invariant-items l = map node_of l.cursors.items ++ nodes_from l.path l.index (items_view (drop l.index l.items)) ≡ nodes_from l.path 0 (items_view l.items)
