-- The rows so far, and those of the listeners that are left, are all.
use Rattle.std.proofs.Common.{◌≡◌, ◌++◌, drop}
use Rattle.std.specs.List.{flat_map}
use Rattle.gw_match.specs.model.Listed.{rows_in}
use Rattle.gw_match.proofs.table.DoorTable.all_rows.Given as goal

abbrev pub invariant-tables : goal.invariant-tables
invariant-tables l = l.all.items ++ flat_map (λ t. rows_in t.routes) (drop l.table-index l.table-items) ≡ flat_map (λ t. rows_in t.routes) l.table-items
