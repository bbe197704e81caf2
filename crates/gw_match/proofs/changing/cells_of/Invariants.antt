-- They are the cells of the Routes so far.
use Rattle.std.proofs.Common.{take}
use Rattle.gw_cells.specs.Held.{AreCellsOf}
use Rattle.gw_match.specs.model.Listed.{rows_in}
use Rattle.gw_match.proofs.changing.cells_of.Given as goal

abbrev pub invariant-routes : goal.invariant-routes
invariant-routes l = AreCellsOf (rows_in (take l.rows-index l.routes)) l.cells
