-- What is kept of no Routes.
use Rattle.std.proofs.Common.{◌≡◌, ℕ, [], ◌∷◌, All, List, ap, map, refl, sym, subst}
use Rattle.std.specs.List.Sorted.{IsStrictlySortedBy}
use Rattle.std.proofs.lemmas.List.Elements.{All-cons, All-nil}
use Rattle.gw_text.specs.model.Doors.{Door}
use Rattle.gw_text.specs.model.Statuses.{RouteStatus}
use Rattle.gw_eval.specs.Kept.{KeptRoute}
use Rattle.gw_kept.specs.Counts.{AreCounts}
use Rattle.gw_kept.specs.declared.counts.Counts.{Counts}
use Rattle.gw_kept.specs.Held.{DoorTables, IsEvaluated, IsHeld, IsOf, ServedDoor, door_alone, kept_route_key, served_by, without_listeners}
use Rattle.gw_kept.specs.Places.{IsInOrder}

pub alone_served : (doors : List Door) → map served_by (map door_alone doors) ≡ map without_listeners doors
alone_served [] = refl
alone_served (d ∷ doors) = ap (λ (ss : List ServedDoor). without_listeners d ∷ ss) (alone_served doors)

alone_tables : (doors : List Door) → All (λ (d : DoorTables). All (IsOf d.door []) d.tables) (map door_alone doors)
alone_tables [] = All-nil (λ (d : DoorTables). All (IsOf d.door []) d.tables)
alone_tables (d ∷ doors) = All-cons (λ (d : DoorTables). All (IsOf d.door []) d.tables) (door_alone d) (map door_alone doors) (All-nil (IsOf d [])) (alone_tables doors)

nothing_in_order : IsInOrder kept_route_key []
unfolding IsStrictlySortedBy
nothing_in_order = tt

pub alone_held : (controller : List ℕ) (kept : List KeptRoute) (statuses : List RouteStatus) (counts : Counts) (ds : List DoorTables) (doors : List Door)
    → kept ≡ [] → statuses ≡ [] → AreCounts [] counts → ds ≡ map door_alone doors → IsHeld controller kept statuses counts ds
alone_held controller kept statuses counts ds doors none nothing counted alone =
    subst (λ (k : List KeptRoute). IsHeld controller k statuses counts ds) (sym none) (record {
      order = nothing_in_order;
      evaluated = All-nil (IsEvaluated controller);
      statuses_are = nothing;
      counts_are = counted;
      tables_are = subst (All (λ (d : DoorTables). All (IsOf d.door []) d.tables)) (sym alone) (alone_tables doors);
    })
