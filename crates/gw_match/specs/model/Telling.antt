-- The tables of all doors, and the list of changes for which they stand.
use Rattle.std.specs.Prelude.{◌≡◌, ℕ, List, map, length}
use Rattle.gw_rows.specs.model.DoorRows.{rows_of}
use Rattle.gw_rows.specs.model.Rows.{Rows}
use Rattle.gw_store.specs.SeenEvents.{seen_event}
use Rattle.gw_store.specs.declared.event.Entry.{Entry}
use Rattle.gw_text.specs.model.Doors.{Door}
use Rattle.gw_text.specs.model.Objects.{Change}
use Rattle.gw_text.specs.model.World.{World, world_of}

-- The rows of each door, in the order of the doors, with the doors, the controller's name and a number of changes.
pub record Tables : Type 0 where
  pub number : ℕ
  pub doors : List Door
  pub controller : List ℕ
  pub tables : List Rows

-- A change as the world takes it.
abbrev pub change_of : Entry → Change
change_of e = record { event = seen_event e.event; at = e.at }

-- The world after entries.
abbrev pub world_after : List Entry → World
world_after list = world_of (map change_of list)

-- The rows of each door in a world.
abbrev pub tables_of : List Door → List ℕ → World → List Rows
tables_of doors controller w = map (rows_of doors controller w) doors

-- Tables stand for a list of changes: the number is the list's length, and each door has its rows of the world after it.
pub record Stands (t : Tables) (list : List Entry) : Type 0 where
  pub number : t.number ≡ length list
  pub tables : t.tables ≡ tables_of t.doors t.controller (world_after list)
