-- Each row so far has the place of the one of its number.
use Rattle.std.proofs.Common.{ℕ, ◌<◌, get_or}
use Rattle.gw_cells.specs.model.Order.{StandsFor}
use Rattle.gw_rows.specs.model.Rows.{Row}
use Rattle.gw_match.proofs.changing.stand_for.Given as goal

abbrev pub invariant-rows : goal.invariant-rows
invariant-rows l = (i : ℕ) (d : Row) → i < l.at → StandsFor (get_or l.rows i d) (get_or l.former i d)
