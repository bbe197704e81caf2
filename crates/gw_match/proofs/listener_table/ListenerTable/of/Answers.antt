-- The cells are those of the rows that the list has.
use Rattle.std.proofs.Common.{List, sym, subst}
use Rattle.gw_cells.specs.Held.{AreCellsOf}
use Rattle.gw_rows.specs.model.Rows.{Row}
use Rattle.gw_match.specs.model.Listed.{AreApart, rows_in}
use Rattle.gw_match.proofs.Celled.{Keeps}
use Rattle.gw_match.proofs.listener_table.ListenerTable.of.Goals as goal

pub cells_of-requires : goal.cells_of-requires
cells_of-requires c = subst (λ (l : List (List Row)). AreApart (rows_in l)) (sym c.as_slice.ensures.value) c.requires.apart

pub invariant_of-result : goal.invariant_of-result
invariant_of-result c =
    subst (λ (l : List (List Row)). Keeps c.args.listener l c.in_ok-cells.cells) (sym c.in_ok-routes.ensures)
    (c.requires, subst (λ (l : List (List Row)). AreCellsOf (rows_in l) c.in_ok-cells.cells) c.as_slice.ensures.value c.in_ok-cells.ensures)
