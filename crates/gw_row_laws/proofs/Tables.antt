-- What holds of the rows of each door of each world holds of those that a number has.
use Rattle.std.proofs.Common.{ℕ, suc, zero, List, [], ◌∷◌, map, get_or}
use Rattle.gw_match.specs.model.Telling.{world_after}
use Rattle.gw_row_laws.specs.Tabled.{no_rows, rows_after}
use Rattle.gw_rows.specs.model.DoorRows.{rows_of}
use Rattle.gw_rows.specs.model.Rows.{Rows}
use Rattle.gw_store.specs.declared.event.Entry.{Entry}
use Rattle.gw_text.specs.model.Doors.{Door}
use Rattle.gw_text.specs.model.World.{World}

at_place : {X Y : Type 0} (P : Y → Type 0) (f : X → Y) (xs : List X) (n : ℕ) (d : Y) → P d → ((x : X) → P (f x)) → P (get_or (map f xs) n d)
at_place P f [] n d none each = none
at_place P f (x ∷ xs) zero d none each = each x
at_place P f (x ∷ xs) (suc n) d none each = at_place P f xs n d none each

pub in_tables : (P : Rows → Type 0) (doors : List Door) (controller : List ℕ) (changes : List Entry) (door : ℕ)
    → P no_rows → ((w : World) (d : Door) → P (rows_of doors controller w d)) → P (rows_after doors controller changes door)
in_tables P doors controller changes door none each =
    at_place P (rows_of doors controller (world_after changes)) doors door no_rows none (each (world_after changes))
