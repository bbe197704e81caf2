-- Which rows a cell has, and in which order.
use Rattle.std.specs.Prelude.{◌≡◌, List, All, IsPermutation, filter}
use Rattle.std.specs.List.Sorted.{IsStrictlySortedBy}
use Rattle.std.specs.declared.cmp.Ordering.TheVariants.{Equal}
use Rattle.gw_rows.specs.model.Precedence.{AreOneRow, precedence}
use Rattle.gw_rows.specs.model.Rows.{Row}
use Rattle.gw_cells.specs.model.Addresses.{Address, address_of, stands_at}

-- A cell has these rows, and each of them stands before those behind it.
pub record IsInOrder (rows cell : List Row) : Type 0 where
  pub all : IsPermutation rows cell
  pub ordered : IsStrictlySortedBy precedence cell

-- It is the cell of this address: it has the rows that stand there.
abbrev pub IsCellOf : List Row → Address → List Row → Type 0
IsCellOf rows a cell = IsInOrder (filter (stands_at a) rows) cell

-- None of these is one row with it.
abbrev pub IsApartFrom : List Row → Row → Type 0
IsApartFrom rows row = All (λ r. ¬ AreOneRow r row) rows

-- A row has the place of another one: they have one address, and precedence doesn't tell them apart.
pub record StandsFor (row former : Row) : Type 0 where
  pub address : address_of row ≡ address_of former
  pub tied : precedence former row ≡ Equal
