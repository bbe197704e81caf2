-- What becomes of a cell.
use Rattle.std.specs.Prelude.{◌≡◌, List, ◌∷◌}
use Rattle.std.specs.declared.cmp.Ordering.TheVariants.{Equal}
use Rattle.gw_rows.specs.model.Precedence.{precedence}
use Rattle.gw_rows.specs.model.Rows.{Row}
use Rattle.gw_cells.specs.model.Order.{IsApartFrom, IsInOrder}

-- It gets a row, whichever others it had.
abbrev pub AddsRow : Row → List Row → List Row → Type 0
AddsRow row old new = (rows : List Row) → IsApartFrom rows row → IsInOrder rows old → IsInOrder (row ∷ rows) new

-- It loses a row, whichever others it had.
abbrev pub TakesOutRow : Row → List Row → List Row → Type 0
TakesOutRow row old new = (rest : List Row) → IsInOrder (row ∷ rest) old → IsInOrder rest new

-- It gets a row in place of one that precedence doesn't tell from it, whichever others it had.
abbrev pub PutsRow : Row → List Row → List Row → Type 0
PutsRow row old new = (former : Row) (rest : List Row) → precedence former row ≡ Equal → IsInOrder (former ∷ rest) old → IsInOrder (row ∷ rest) new
