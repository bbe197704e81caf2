-- They are the cells of those so far, and of all others; where they have the places of former ones, of those that are left too.
use Rattle.std.proofs.Common.{◌++◌, List, take, drop}
use Rattle.gw_cells.specs.Held.{AreCellsOf}
use Rattle.gw_rows.specs.model.Rows.{Row}
use Rattle.gw_match.specs.Standing.{StandFor}
use Rattle.gw_match.specs.model.Listed.{AreApart}
use Rattle.gw_match.proofs.changing.add_all.Given as goal

abbrev pub invariant-rows : goal.invariant-rows
invariant-rows l = record {
  added : (others : List Row) → AreApart (l.rows ++ others) → AreCellsOf others l.fn.cells → AreCellsOf (take l.row-index l.rows ++ others) l.cells;
  put : (former others : List Row) → StandFor l.rows former → AreCellsOf (former ++ others) l.fn.cells
      → AreCellsOf (take l.row-index l.rows ++ (drop l.row-index former ++ others)) l.cells;
}
