-- The rows that a door has after a list of changes.
use Rattle.std.specs.Prelude.{ℕ, List, [], get_or}
use Rattle.gw_match.specs.model.Telling.{tables_of, world_after}
use Rattle.gw_rows.specs.model.Rows.{Rows}
use Rattle.gw_store.specs.declared.event.Entry.{Entry}
use Rattle.gw_text.specs.model.Doors.{Door}

-- Neither listeners nor rows: what a number has that is no door's.
abbrev pub no_rows : Rows
no_rows = record { listeners = []; rows = [] }

-- The rows of the door of this number in the world after the changes.
abbrev pub rows_after : List Door → List ℕ → List Entry → ℕ → Rows
rows_after doors controller changes door = get_or (tables_of doors controller (world_after changes)) door no_rows

-- It holds of the rows of each door, whatever the changes were.
abbrev pub OfEachDoor : (Rows → Type 0) → Type 0
OfEachDoor Holds = (doors : List Door) (controller : List ℕ) (changes : List Entry) (door : ℕ) → Holds (rows_after doors controller changes door)
