-- They are the cells of those that are left, and of all others.
use Rattle.std.proofs.Common.{◌++◌, List, drop}
use Rattle.gw_cells.specs.Held.{AreCellsOf}
use Rattle.gw_rows.specs.model.Rows.{Row}
use Rattle.gw_match.proofs.changing.take_out_all.Given as goal

abbrev pub invariant-rows : goal.invariant-rows
invariant-rows l = (others : List Row) → AreCellsOf (l.rows ++ others) l.fn.cells → AreCellsOf (drop l.row-index l.rows ++ others) l.cells
