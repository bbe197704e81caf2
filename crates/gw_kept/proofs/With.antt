-- What is kept with something else under one key.
use Rattle.std.proofs.Common.{◌≡◌, ◌∙◌, ℕ, ◌++◌, All, List, Option, IfSome, ap, map, option_map, option_to_list, sym, subst, drop, take}
use Rattle.std.specs.Prelude.{if◌then◌else◌}
use Rattle.gw_text.specs.model.Names.{Key, same_key}
use Rattle.gw_text.specs.model.Statuses.{RouteStatus}
use Rattle.gw_eval.specs.Kept.{KeptRoute}
use Rattle.gw_kept.specs.Counts.{AreCounts}
use Rattle.gw_kept.specs.declared.counts.Counts.{Counts}
use Rattle.gw_kept.proofs.Holding.{all_option, all_with, counts_parts, counts_with, doors_after, doors_take, has_rows, served_same}
use Rattle.gw_kept.proofs.Ordering.{map_option, map_with, ordered_with}
use Rattle.gw_kept.proofs.Turning.{found_with, standing}
use Rattle.gw_kept.specs.Held.{DoorTables, Held, IsEvaluated, IsHeld, IsOf, ServedDoor, Takes, door_with, kept_route_key, served_by}
use Rattle.gw_kept.specs.Places.{IsInOrder, IsPlaceOf, behind, kept_at, with_at}
use Rattle.gw_kept.specs.declared.place.Place.{Place}

pub found_after : (key : Key) (p : Place) (v : Option KeptRoute) (kept seen after : List KeptRoute) → kept ≡ seen → IsPlaceOf kept_route_key key kept p → IfSome v (λ k. kept_route_key k ≡ key)
    → after ≡ with_at p (option_to_list v) kept → (other : Key) → kept_at kept_route_key other after ≡ (if same_key key other then v else kept_at kept_route_key other seen)
found_after key p v kept seen after same place own is other =
    ap (kept_at kept_route_key other) is ∙ found_with kept_route_key key p v kept place own other
    ∙ ap (λ (l : List KeptRoute). if same_key key other then v else kept_at kept_route_key other l) same

module _ (controller : List ℕ) (key : Key) (p : Place) (v : Option KeptRoute) where
  module _ (kept : List KeptRoute) (statuses : List RouteStatus) (counts : Counts) (ds : List DoorTables) (held : IsHeld controller kept statuses counts ds)
      (place : IsPlaceOf kept_route_key key kept p) (own : IfSome v (λ k. kept_route_key k ≡ key)) (fresh : IfSome v (IsEvaluated controller)) where
    abbrev now : List KeptRoute
    now = with_at p (option_to_list v) kept

    in_order : IsInOrder kept_route_key (with_at p (option_to_list v) kept)
    in_order = ordered_with kept_route_key key p v kept held.order place own

    evaluated : All (IsEvaluated controller) (with_at p (option_to_list v) kept)
    evaluated = all_with (IsEvaluated controller) p (option_to_list v) kept (all_option (IsEvaluated controller) v fresh) held.evaluated

    take_here : All (λ (d : DoorTables). All (Takes p d.door (option_to_list v)) d.tables) ds
    take_here = doors_take p (option_to_list v) kept place.within (λ door l. has_rows controller door l now in_order evaluated) ds held.tables_are

    pub held_after : (name : List ℕ) (kept' : List KeptRoute) (statuses' : List RouteStatus) (counts' : Counts) (ds' : List DoorTables)
        → name ≡ controller → kept' ≡ with_at p (option_to_list v) kept
        → statuses' ≡ with_at p (option_to_list (option_map (λ (k : KeptRoute). k.status) v)) statuses
        → ((others : List KeptRoute) → AreCounts (option_to_list (standing p kept) ++ others) counts → AreCounts (option_to_list v ++ others) counts')
        → ds' ≡ map (door_with p (option_to_list v)) ds
        → IsHeld name kept' statuses' counts' ds'
    held_after name kept' statuses' counts' ds' same is made counted doors =
        subst (λ (n : List ℕ). IsHeld n kept' statuses' counts' ds') (sym same)
        (subst (λ (k : List KeptRoute). IsHeld controller k statuses' counts' ds') (sym is) (record {
          order = in_order;
          evaluated = evaluated;
          statuses_are = made ∙ ap (with_at p (option_to_list (option_map (λ (k : KeptRoute). k.status) v))) held.statuses_are
              ∙ ap (λ (l : List RouteStatus). with_at p l (map (λ (k : KeptRoute). k.status) kept)) (sym (map_option (λ (k : KeptRoute). k.status) v))
              ∙ sym (map_with (λ (k : KeptRoute). k.status) p (option_to_list v) kept);
          counts_are = counts_with p (option_to_list v) kept counts' (counted (take p.at kept ++ drop (behind p) kept) (counts_parts p kept counts place.within held.counts_are));
          tables_are = subst (All (λ (d : DoorTables). All (IsOf d.door now) d.tables)) (sym doors) (doors_after p (option_to_list v) kept ds held.tables_are);
        }))

pub take_all : (controller : List ℕ) (key : Key) (p : Place) (v shown : Option KeptRoute) (kept : List KeptRoute) (statuses : List RouteStatus) (counts : Counts) (ds : List DoorTables)
    → IsHeld controller kept statuses counts ds → IsPlaceOf kept_route_key key kept p → IfSome v (λ k. kept_route_key k ≡ key) → IfSome v (IsEvaluated controller) → shown ≡ v
    → All (λ (d : DoorTables). All (Takes p d.door (option_to_list shown)) d.tables) ds
take_all controller key p v shown kept statuses counts ds held place own fresh is =
    subst (λ (o : Option KeptRoute). All (λ (d : DoorTables). All (Takes p d.door (option_to_list o)) d.tables) ds) (sym is)
    (take_here controller key p v kept statuses counts ds held place own fresh)

-- the controller and the doors' listeners are the same
pub same_after : (p : Place) (values : List KeptRoute) (h : Held) (controller name : List ℕ) (kept kept' : List KeptRoute) (ds ds' : List DoorTables)
    → record { controller = controller; kept = kept; doors = map served_by ds } ≡ h → name ≡ controller → ds' ≡ map (door_with p values) ds
    → record { controller = name; kept = kept'; doors = map served_by ds' } ≡ record h { kept = kept' }
same_after p values h controller name kept kept' ds ds' view same doors =
    ap (λ (n : List ℕ). record { controller = n; kept = kept'; doors = map served_by ds' }) same
    ∙ ap (λ (ss : List ServedDoor). record { controller = controller; kept = kept'; doors = ss }) (ap (map served_by) doors ∙ served_same p values kept ds)
    ∙ ap (λ (g : Held). record g { kept = kept' }) view
