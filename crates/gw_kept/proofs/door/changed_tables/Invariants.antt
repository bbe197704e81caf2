-- The tables so far are those of the former ones so far.
use Rattle.std.proofs.Common.{◌≡◌, map, option_to_list}
use Rattle.std.specs.Option.{option_copied}
use Rattle.gw_kept.specs.Held.{table_with}
use Rattle.gw_kept.proofs.door.changed_tables.Given as goal

abbrev pub invariant-tables : goal.invariant-tables
invariant-tables l = l.changed.items ≡ map (table_with l.place l.door (option_to_list (option_copied l.kept))) l.yielded
