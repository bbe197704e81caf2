-- The objects after a list of changes, and the tables that stand for it.
use Rattle.std.proofs.Common.{◌≡◌, ◌∙◌, ℕ, ◌+◌, ◌^◌, ◌<◌, ◌||◌, nat_le, Bool, true, false, List, [], ◌∷◌, ◌++◌, length, map, sym, subst, ap, arith}
use Rattle.std.proofs.lemmas.Bool.Decides.{nat_tests}
use Rattle.std.proofs.lemmas.List.{length-map, map-append}
use Rattle.std.proofs.lemmas.List.Sums.{fold-append}
use Rattle.gw_match.specs.model.Telling.{Stands, Tables, change_of, tables_of, world_after}
use Rattle.gw_store.specs.declared.event.Entry.{Entry}
use Rattle.gw_text.specs.model.Doors.{Door}
use Rattle.gw_text.specs.model.Objects.{Change, Event}
use Rattle.gw_text.specs.model.World.{World, after_changes, apply, is_full, is_one_too_many, nothing, world_of}

-- the objects after one change more
pub world_more : (changes : List Entry) (entry : Entry) → world_after (changes ++ entry ∷ []) ≡ apply (world_after changes) (change_of entry)
world_more changes entry = ap (λ (cs : List Change). world_of cs) (map-append change_of changes (entry ∷ []))
    ∙ fold-append apply nothing (map change_of changes) (change_of entry ∷ [])

-- each change counts
counted_from : (w : World) (cs : List Change) → (after_changes w cs).changes ≡ w.changes + length cs
counted_from w [] = omega arith
counted_from w (c ∷ cs) = omega (arith, counted_from (apply w c) cs)

pub counted : (changes : List Entry) → (world_after changes).changes ≡ length changes
counted changes = omega (arith, counted_from nothing (map change_of changes), length-map changes change_of)

-- there is room for a number more
pub room_left : (w : World) (event : Event) → is_full w event ≡ false → w.changes + 1 < 2 ^ 64
unfolding is_full
room_left w event room = go (is_one_too_many w event) room
  where
    go : (b : Bool) → (b || nat_le (2 ^ 64) (w.changes + 1)) ≡ false → w.changes + 1 < 2 ^ 64
    go true e = cc
    go false e = grind (arith, nat_tests, e)

-- tables of the objects after a list of changes stand for it
pub tables_stand : (doors : List Door) (controller : List ℕ) (w : World) (t : Tables) (changes : List Entry) → w ≡ world_after changes
    → t ≡ record { number = w.changes; doors = doors; controller = controller; tables = tables_of doors controller w } → Stands t changes
tables_stand doors controller w t changes after is = subst (λ (t : Tables). Stands t changes) (sym is) (record {
  number = ap (λ (w : World). w.changes) after ∙ counted changes;
  tables = ap (tables_of doors controller) after;
})
