-- Rows that have the places of others.
use Rattle.std.specs.Prelude.{◌≡◌, ◌<◌, ℕ, List, length, get_or}
use Rattle.gw_cells.specs.model.Order.{StandsFor}
use Rattle.gw_rows.specs.model.Rows.{Row}

-- Each row has the place of the one of its number among the others, and there are as many.
pub record StandFor (rows former : List Row) : Type 0 where
  pub size : length rows ≡ length former
  pub each : (i : ℕ) (d : Row) → i < length rows → StandsFor (get_or rows i d) (get_or former i d)
