-- Those that are shared, and then the rest, are all.
use Rattle.std.proofs.Common.{◌≡◌, ◌++◌, drop}
use Rattle.gw_kept.proofs.door.shared_tables.Given as goal

abbrev pub invariant-tables : goal.invariant-tables
invariant-tables l = l.shared.items ++ drop l.table-index l.tables ≡ l.tables
