-- What is passed over stands before the row or behind it.
use Rattle.std.proofs.Common.{◌-◌, ◌≤◌, length}
use Rattle.std.specs.List.{AllWithin}
use Rattle.std.specs.List.Sorted.{IsStrictlySortedBy}
use Rattle.gw_rows.proofs.Ordered.{is_total}
use Rattle.gw_rows.specs.model.Precedence.{precedence}
use Rattle.gw_cells.specs.Cells.{rows_in}
use Rattle.gw_cells.proofs.InOrder.{IsAbove, IsBelow}
use Rattle.gw_cells.proofs.rows.place_in.Given as goal

abbrev pub invariant-halves : goal.invariant-halves
invariant-halves l = record {
  within : l.high ≤ length (rows_in l.cell);
  ordered : l.low ≤ l.high;
  below : IsStrictlySortedBy precedence (rows_in l.cell) → AllWithin (IsBelow precedence is_total l.row) (rows_in l.cell) 0 l.low;
  above : IsStrictlySortedBy precedence (rows_in l.cell) → AllWithin (IsAbove precedence is_total l.row) (rows_in l.cell) l.high (length (rows_in l.cell));
}

abbrev pub decreases-halves : goal.decreases-halves
decreases-halves l = l.high - l.low
