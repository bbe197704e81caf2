-- Those that are shared, and then the rest, are all.
use Rattle.std.proofs.Common.{◌≡◌, ◌++◌, drop}
use Rattle.gw_cells.proofs.row_list.share_rows.Given as goal

abbrev pub invariant-rows : goal.invariant-rows
invariant-rows l = l.shared.items ++ drop l.row-index l.rows ≡ l.rows
