-- They are the cells of the rows so far.
use Rattle.std.proofs.Common.{take}
use Rattle.gw_cells.specs.Held.{AreCellsOf}
use Rattle.gw_cells.proofs.cells.Cells.of.Given as goal

abbrev pub invariant-rows : goal.invariant-rows
invariant-rows l = AreCellsOf (take l.row-index l.rows) l.cells
