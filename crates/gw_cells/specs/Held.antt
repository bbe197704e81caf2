-- Which rows cells have.
use Rattle.std.specs.Prelude.{List}
use Rattle.gw_rows.specs.model.Rows.{Row}
use Rattle.gw_cells.specs.Cells.{at_name}
use Rattle.gw_cells.specs.declared.cells.Cells.{Cells}
use Rattle.gw_cells.specs.model.Addresses.{Address}
use Rattle.gw_cells.specs.model.Order.{IsCellOf}

-- They are the cells of these rows: at each address is that of the rows that stand there.
abbrev pub AreCellsOf : List Row → Cells → Type 0
AreCellsOf rows cells = (a : Address) → IsCellOf rows a (at_name cells.names a.name a.place)
