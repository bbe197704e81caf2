-- How the maps of cells are read.
use Rattle.std.specs.Prelude.{ℕ, List, [], Bool, find, Option, if◌then◌else◌}
use Rattle.std.specs.Option.{option_map_or}
use Rattle.gw_frames.specs.model.Requests.{Request}
use Rattle.gw_rows.specs.model.Fitting.{fits}
use Rattle.gw_rows.specs.model.Rows.{Row}
use Rattle.gw_shared.specs.model.Buckets.{value_at}
use Rattle.gw_shared.specs.model.Entries.{Entry}
use Rattle.gw_cells.specs.declared.address.Address.{Address as Own}
use Rattle.gw_cells.specs.declared.cell.Cell.{Cell}
use Rattle.gw_cells.specs.declared.row_list.RowList.{RowList}
use Rattle.gw_cells.specs.declared.row_list.RowList.TheVariants.{Few, Many}
use Rattle.gw_cells.specs.model.Addresses.{Address, Place}
use Rattle.gw_cells.specs.model.Choice.{first_found}
use Rattle.gw_cells.specs.model.Probes.{names_for, places_for}

-- An address of the code.
abbrev pub seen_address : Own → Address
seen_address a = record { name = a.name.items; place = record { is_exact = a.is_exact; path = a.path.items } }

-- The rows of a list, however it has them.
abbrev pub rows_in : RowList → List Row
rows_in (Few rows) = rows.items
rows_in (Many rows) = rows

-- The rows that ask for a path exactly, or as a prefix.
abbrev pub in_cell : Cell → Bool → List Row
in_cell cell is_exact = rows_in (if is_exact then cell.exact else cell.prefix)

-- The rows at a place, of one name.
abbrev pub at_place : List (List (Entry Cell)) → Place → List Row
at_place paths p = option_map_or (λ cell. in_cell cell p.is_exact) (value_at paths p.path) []

-- Those of one listener.
abbrev pub at_name : List (List (Entry (List (List (Entry Cell))))) → List ℕ → Place → List Row
at_name names name p = option_map_or (λ paths. at_place paths p) (value_at names name) []

-- The first row of a cell that fits.
unfoldable pub first_fit : Request → List Row → Option Row
first_fit q cell = find (λ r. fits r q) cell

-- The first that fits under a name, place by place.
unfoldable pub found_by_place : (Place → List Row) → Request → Option Row
found_by_place cell q = first_found (λ p. first_fit q (cell p)) (places_for q.path)

-- The first that fits, name by name.
unfoldable pub found_by_name : (List ℕ → Place → List Row) → Request → Option Row
found_by_name cell q = first_found (λ name. found_by_place (cell name) q) (names_for q.host)
