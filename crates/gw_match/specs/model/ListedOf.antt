-- The tables of a door in a world.
use Rattle.std.specs.Prelude.{ℕ, List, map}
use Rattle.gw_match.specs.model.Listed.{Listed}
use Rattle.gw_rows.specs.model.DoorRows.{attached_rows, served_at}
use Rattle.gw_rows.specs.model.Rows.{ServedListener}
use Rattle.gw_text.specs.model.Doors.{Door}
use Rattle.gw_text.specs.model.World.{World}

-- A listener with the rows of each Route of the world there.
abbrev pub listed_at : List ℕ → World → Door → ServedListener → Listed
listed_at controller w door l = record { listener = l; routes = map (attached_rows controller w door l) w.routes }

-- The served listeners of the door, each with its rows.
abbrev pub listed_of : List Door → List ℕ → World → Door → List Listed
listed_of doors controller w door = map (listed_at controller w door) (served_at doors controller w door)
