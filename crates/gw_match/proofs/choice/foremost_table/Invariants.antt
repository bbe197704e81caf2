-- The best so far, and those that are left, have the foremost of all.
use Rattle.std.proofs.Common.{◌≡◌, ◌++◌, drop, filter}
use Rattle.std.specs.Option.{option_copied, option_to_list}
use Rattle.gw_rows.specs.model.Rows.{foremost}
use Rattle.gw_match.specs.Nearest.{by_specificity, table_takes}
use Rattle.gw_match.proofs.choice.foremost_table.Given as goal

abbrev pub invariant-tables : goal.invariant-tables
invariant-tables l =
    foremost by_specificity (option_to_list (option_copied l.best) ++ filter (table_takes l.host) (drop l.table-index l.tables))
    ≡ foremost by_specificity (filter (table_takes l.host) l.tables)
