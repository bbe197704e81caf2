-- Those that are taken, and then those of the rest, are all.
use Rattle.std.proofs.Common.{◌≡◌, ◌++◌, drop, filter}
use Rattle.gw_match.specs.model.Listed.{is_row_of}
use Rattle.gw_match.proofs.handles.own_rows.Given as goal

abbrev pub invariant-rows : goal.invariant-rows
invariant-rows l = l.own.items ++ filter (is_row_of l.listener) (drop l.row-index l.rows) ≡ filter (is_row_of l.listener) l.rows
