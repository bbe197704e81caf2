-- What is made of what is kept follows where something else stands under one key.
use Rattle.std.proofs.Common.{◌≡◌, ◌∙◌, ℕ, ◌≤◌, List, [], ◌∷◌, ◌++◌, All, Option, Some, None, IfSome, drop, get_or, length, map, option_map, option_to_list, take, refl, sym, ap, ap₂, subst, arith, inl, inr}
use Rattle.std.specs.List.{AllByRecursion, count_by}
use Rattle.std.specs.List.Sorted.{IsStrictlySortedBy}
use Rattle.std.proofs.lemmas.List.{length-map}
use Rattle.std.proofs.lemmas.List.Elements.{All-append, All-cons, All-drop, All-head, All-map, All-nil, All-tail, All-take, All-weaker, recursion_from_All}
use Rattle.gw_text.specs.model.Doors.{Door}
use Rattle.gw_text.specs.model.Names.{Key, key_order, same_key}
use Rattle.gw_text.specs.model.Routes.{HttpRoute}
use Rattle.gw_text.specs.model.Statuses.{RouteStatus}
use Rattle.gw_text.specs.model.Stored.{Stored, IsInKeyOrder, stored_at}
use Rattle.gw_text.specs.model.World.{World, route_at, route_key}
use Rattle.gw_rows.specs.model.DoorRows.{attached_rows, rows_of, served_at}
use Rattle.gw_rows.specs.model.Rows.{Row, Rows, ServedListener}
use Rattle.gw_eval.specs.Candidates.{kept_rows}
use Rattle.gw_eval.specs.Kept.{KeptRoute, is_kept_at, kept_route_at, kept_route_of, kept_routes_of}
use Rattle.gw_eval.proofs.Keeping.{plan_for_each, rows_of_kept}
use Rattle.gw_kept.specs.Counts.{AreCounts}
use Rattle.gw_kept.specs.declared.counts.Counts.{Counts}
use Rattle.gw_match.specs.model.Listed.{AreOfOneDoor, AreRowsOf, Listed, rows_in, rows_with}
use Rattle.gw_match.specs.model.ListedOf.{listed_at, listed_of}
use Rattle.gw_match.proofs.DoorRows.{rows_of_worlds, tables_have_rows, tables_of_one_door}
use Rattle.gw_deps.proofs.Replacing.{key_is}
use Rattle.gw_kept.proofs.Alike.{either}
use Rattle.gw_kept.proofs.Ordering.{count_moved, map_with}
use Rattle.gw_kept.proofs.Turning.{parts, standing}
use Rattle.gw_kept.specs.Held.{DoorTables, HasItsPlans, HasRows, IsEvaluated, IsHeld, IsOf, ServedDoor, Takes, door_at, door_with, kept_route_key, listed_with, served_by, served_door, table_with}
use Rattle.gw_kept.specs.Places.{IsInOrder, behind, with_at}
use Rattle.gw_kept.specs.declared.place.Place.{Place}

-- each Route with a world in which it is evaluated
worlds : (controller : List ℕ) (kept : List KeptRoute) → AllByRecursion (IsEvaluated controller) kept → List (World × Stored HttpRoute)
worlds controller [] each = []
worlds controller (k ∷ kept) each = (each.0.0, k.route) ∷ worlds controller kept each.1

keys_of_worlds : (controller : List ℕ) (kept : List KeptRoute) (each : AllByRecursion (IsEvaluated controller) kept)
    → map (λ x. route_key x.1.object) (worlds controller kept each) ≡ map kept_route_key kept
unfolding worlds
keys_of_worlds controller [] each = refl
keys_of_worlds controller (k ∷ kept) each = ap (λ (ks : List Key). route_key k.route.object ∷ ks) (keys_of_worlds controller kept each.1)

rows_in_worlds : (controller : List ℕ) (door : Door) (l : ServedListener) (kept : List KeptRoute) (each : AllByRecursion (IsEvaluated controller) kept)
    → map (λ x. attached_rows controller x.0 door l x.1) (worlds controller kept each) ≡ map (kept_rows door l) kept
unfolding worlds
rows_in_worlds controller door l [] each = refl
rows_in_worlds controller door l (k ∷ kept) each =
    ap₂ (λ (rows : List Row) (all : List (List Row)). rows ∷ all)
    (sym (ap (kept_rows door l) each.0.1 ∙ rows_of_kept controller each.0.0 door l k.route))
    (rows_in_worlds controller door l kept each.1)

-- the rows of evaluated Routes are such as a table has
pub has_rows : (controller : List ℕ) (door : Door) (l : ServedListener) (kept : List KeptRoute) → IsInOrder kept_route_key kept → All (IsEvaluated controller) kept → HasRows door kept l
has_rows controller door l kept order evaluated =
    let each = recursion_from_All (IsEvaluated controller) kept evaluated in
    subst (λ (rows : List (List Row)). AreRowsOf l (rows_in rows)) (rows_in_worlds controller door l kept each)
    (rows_of_worlds controller door l (worlds controller kept each) (subst (IsStrictlySortedBy key_order) (sym (keys_of_worlds controller kept each)) order))

-- evaluated Routes have a plan for each rule
pub has_plans : (controller : List ℕ) (k : KeptRoute) → IsEvaluated controller k → HasItsPlans k
has_plans controller k evaluated = plan_for_each controller evaluated.0 k.route k evaluated.1

pub have_plans : (controller : List ℕ) (kept : List KeptRoute) → All (IsEvaluated controller) kept → All HasItsPlans kept
have_plans controller kept evaluated = All-weaker (IsEvaluated controller) HasItsPlans (has_plans controller) kept evaluated

pub all_option : {X : Type 0} (P : X → Type 0) (v : Option X) → IfSome v P → All P (option_to_list v)
all_option P None here = All-nil P
all_option P (Some x) here = All-cons P x [] here (All-nil P)

pub all_with : {X : Type 0} (P : X → Type 0) (p : Place) (values xs : List X) → All P values → All P xs → All P (with_at p values xs)
all_with P p values xs own all =
    All-append P (take p.at xs) (values ++ drop (behind p) xs) (All-take P p.at xs all) (All-append P values (drop (behind p) xs) own (All-drop P (behind p) xs all))

module _ (p : Place) (values kept : List KeptRoute) where
  abbrev after : List KeptRoute
  after = with_at p values kept

  module _ (door : Door) where
    routes_after : (t : Listed) → IsOf door kept t → with_at p (map (kept_rows door t.listener) values) t.routes ≡ map (kept_rows door t.listener) after
    routes_after t is =
        ap (with_at p (map (kept_rows door t.listener) values)) is ∙ sym (map_with (kept_rows door t.listener) p values kept)

    -- a table of these Routes becomes one of those after it
    pub table_after : (t : Listed) → IsOf door kept t → IsOf door (with_at p values kept) (table_with p door values t)
    table_after t is = routes_after t is

    -- and can, where these have rows such as a table has
    pub takes : behind p ≤ length kept → ((l : ServedListener) → HasRows door (with_at p values kept) l) → (t : Listed) → IsOf door kept t → Takes p door values t
    takes within rows t is = record {
      within = rw (ap length is ∙ length-map kept (kept_rows door t.listener)) within;
      rows = subst (λ (all : List (List Row)). AreRowsOf t.listener (rows_in all)) (sym (routes_after t is)) (rows t.listener);
    }

  listeners_same : (door : Door) (ts : List Listed) → map (λ (t : Listed). t.listener) (map (table_with p door values) ts) ≡ map (λ (t : Listed). t.listener) ts
  listeners_same door [] = refl
  listeners_same door (t ∷ ts) = ap (λ (ls : List ServedListener). t.listener ∷ ls) (listeners_same door ts)

  -- the doors have the same listeners
  pub served_same : (ds : List DoorTables) → map served_by (map (door_with p values) ds) ≡ map served_by ds
  served_same [] = refl
  served_same (d ∷ ds) =
      ap₂ (λ (ls : List ServedListener) (rest : List ServedDoor). record { door = d.door; listeners = ls } ∷ rest) (listeners_same d.door d.tables) (served_same ds)

  pub doors_after : (ds : List DoorTables) → All (λ d. All (IsOf d.door kept) d.tables) ds → All (λ d. All (IsOf d.door (with_at p values kept)) d.tables) (map (door_with p values) ds)
  doors_after ds are =
      All-map (λ (d : DoorTables). All (IsOf d.door after) d.tables) (door_with p values) ds
      (All-weaker (λ (d : DoorTables). All (IsOf d.door kept) d.tables) (λ (d : DoorTables). All (IsOf d.door after) (map (table_with p d.door values) d.tables))
      (λ d all. All-map (IsOf d.door after) (table_with p d.door values) d.tables (All-weaker (IsOf d.door kept) (λ t. IsOf d.door after (table_with p d.door values t)) (table_after d.door) d.tables all)) ds are)

  pub doors_take : behind p ≤ length kept → ((door : Door) (l : ServedListener) → HasRows door (with_at p values kept) l) → (ds : List DoorTables)
      → All (λ d. All (IsOf d.door kept) d.tables) ds → All (λ d. All (Takes p d.door values) d.tables) ds
  doors_take within rows ds are =
      All-weaker (λ (d : DoorTables). All (IsOf d.door kept) d.tables) (λ (d : DoorTables). All (Takes p d.door values) d.tables)
      (λ d all. All-weaker (IsOf d.door kept) (Takes p d.door values) (takes d.door within (rows d.door)) d.tables all) ds are

-- ---- listeners that are served anew

module _ (doors : List Door) (controller : List ℕ) (w : World) (kept : List KeptRoute) (door : Door) where
  listeners_of : (ls : List ServedListener) → map (λ (t : Listed). t.listener) (map (listed_with door kept) ls) ≡ ls
  listeners_of [] = refl
  listeners_of (l ∷ ls) = ap (λ (rest : List ServedListener). l ∷ rest) (listeners_of ls)

  pub served_of_door : served_by (door_at doors controller w kept door) ≡ served_door doors controller w door
  served_of_door = ap (λ (ls : List ServedListener). record { door = door; listeners = ls }) (listeners_of (served_at doors controller w door))

  each_of : (ls : List ServedListener) → All (IsOf door kept) (map (listed_with door kept) ls)
  each_of [] = All-nil (IsOf door kept)
  each_of (l ∷ ls) = All-cons (IsOf door kept) (listed_with door kept l) (map (listed_with door kept) ls) refl (each_of ls)

  pub tables_of_door : All (IsOf door kept) (door_at doors controller w kept door).tables
  tables_of_door = each_of (served_at doors controller w door)

-- what is kept and made stays, where only the tables are others
pub held_again : (controller name : List ℕ) (kept kept' : List KeptRoute) (statuses statuses' : List RouteStatus) (counts counts' : Counts) (ds ds' : List DoorTables)
    → IsHeld controller kept statuses counts ds → name ≡ controller → kept' ≡ kept → statuses' ≡ statuses → counts' ≡ counts
    → All (λ (d : DoorTables). All (IsOf d.door kept) d.tables) ds' → IsHeld name kept' statuses' counts' ds'
held_again controller name kept kept' statuses statuses' counts counts' ds ds' held same is made counted tables =
    subst (λ (n : List ℕ). IsHeld n kept' statuses' counts' ds') (sym same)
    (subst (λ (k : List KeptRoute). IsHeld controller k statuses' counts' ds') (sym is) (record {
      order = held.order;
      evaluated = held.evaluated;
      statuses_are = made ∙ held.statuses_are;
      counts_are = subst (AreCounts kept) (sym counted) held.counts_are;
      tables_are = tables;
    }))

-- counts follow: those of a Route and the others are those of all
pub counts_parts : (p : Place) (kept : List KeptRoute) (counts : Counts) → behind p ≤ length kept → AreCounts kept counts
    → AreCounts (option_to_list (standing p kept) ++ (take p.at kept ++ drop (behind p) kept)) counts
counts_parts p kept counts within are key place =
    are key place ∙ ap (count_by (is_kept_at key place)) (parts p kept within)
    ∙ count_moved (is_kept_at key place) (take p.at kept) (option_to_list (standing p kept)) (drop (behind p) kept)

pub counts_with : (p : Place) (values kept : List KeptRoute) (counts : Counts) → AreCounts (values ++ (take p.at kept ++ drop (behind p) kept)) counts → AreCounts (with_at p values kept) counts
counts_with p values kept counts are key place = are key place ∙ sym (count_moved (is_kept_at key place) (take p.at kept) values (drop (behind p) kept))

-- what is stored under a key has it
pub found_key : {T : Type 0} (key_of : T → Key) (key : Key) (xs : List (Stored T)) → IfSome (stored_at key_of key xs) (λ s. key_of s.object ≡ key)
found_key key_of key [] = tt
found_key key_of key (s ∷ xs) = elim (either (same_key (key_of s.object) key)) [
  | inl here ↦ (rw here (key_is (key_of s.object) key here))
  | inr other ↦ (rw other (found_key key_of key xs))
]

of_some : {X Y : Type 0} (P : X → Type 0) (Q : Y → Type 0) (f : X → Y) (o : Option X) → ((x : X) → P x → Q (f x)) → IfSome o P → IfSome (option_map f o) Q
of_some P Q f None step here = tt
of_some P Q f (Some x) step here = step x here

-- what is evaluated of the Route of a key is kept under it
pub route_under : (controller : List ℕ) (w : World) (key : Key) (o : Option KeptRoute) → o ≡ kept_route_at controller w key → IfSome o (λ k. kept_route_key k ≡ key)
route_under controller w key o is =
    subst (λ (o : Option KeptRoute). IfSome o (λ k. kept_route_key k ≡ key)) (sym is)
    (of_some (λ (s : Stored HttpRoute). route_key s.object ≡ key) (λ (k : KeptRoute). kept_route_key k ≡ key) (kept_route_of controller w) (route_at w key) (λ s here. here) (found_key route_key key w.routes))

pub evaluated_in : (controller : List ℕ) (w : World) (key : Key) (o : Option KeptRoute) → o ≡ kept_route_at controller w key → IfSome o (IsEvaluated controller)
evaluated_in controller w key o is =
    subst (λ (o : Option KeptRoute). IfSome o (IsEvaluated controller)) (sym is)
    (of_some (λ (s : Stored HttpRoute). route_key s.object ≡ key) (IsEvaluated controller) (kept_route_of controller w) (route_at w key) (λ s here. (w, refl)) (found_key route_key key w.routes))

-- ---- the tables of a world

module _ (doors : List Door) (controller : List ℕ) (w : World) where
  rows_at_listener : (door : Door) (l : ServedListener) (ss : List (Stored HttpRoute)) → map (kept_rows door l) (map (kept_route_of controller w) ss) ≡ map (attached_rows controller w door l) ss
  rows_at_listener door l [] = refl
  rows_at_listener door l (s ∷ ss) = ap₂ (λ (rows : List Row) (all : List (List Row)). rows ∷ all) (rows_of_kept controller w door l s) (rows_at_listener door l ss)

  listed_is : (door : Door) (ts : List Listed) → All (IsOf door (kept_routes_of controller w)) ts → ts ≡ map (listed_at controller w door) (map (λ t. t.listener) ts)
  listed_is door [] all = refl
  listed_is door (t ∷ ts) all =
      ap₂ (λ (t : Listed) (ts : List Listed). t ∷ ts)
      (ap (λ (routes : List (List Row)). record { listener = t.listener; routes = routes })
      (All-head (IsOf door (kept_routes_of controller w)) t ts all ∙ rows_at_listener door t.listener w.routes))
      (listed_is door ts (All-tail (IsOf door (kept_routes_of controller w)) t ts all))

  -- the tables of a door are those of the world
  pub tables_are : (d : DoorTables) → served_by d ≡ served_door doors controller w d.door → All (IsOf d.door (kept_routes_of controller w)) d.tables → d.tables ≡ listed_of doors controller w d.door
  tables_are d served all =
      listed_is d.door d.tables all ∙ ap (map (listed_at controller w d.door)) (ap (λ (s : ServedDoor). s.listeners) served)

  own_door : (d : DoorTables) (e : Door) → served_by d ≡ served_door doors controller w e → d.door ≡ e
  own_door d e is = ap (λ (s : ServedDoor). s.door) is

  tables_there : (d : DoorTables) (e : Door) → served_by d ≡ served_door doors controller w e → All (IsOf d.door (kept_routes_of controller w)) d.tables → d.tables ≡ listed_of doors controller w d.door
  tables_there d e is all = tables_are d (is ∙ ap (served_door doors controller w) (sym (own_door d e is))) all

  -- the tables of each door are such as a door's table is made of
  pub of_one_door : IsInKeyOrder route_key w.routes → (ds : List DoorTables) (es : List Door) → map served_by ds ≡ map (served_door doors controller w) es
      → All (λ (d : DoorTables). All (IsOf d.door (kept_routes_of controller w)) d.tables) ds → All (λ (d : DoorTables). AreOfOneDoor d.tables) ds
  of_one_door order [] es are all = All-nil (λ (d : DoorTables). AreOfOneDoor d.tables)
  of_one_door order (d ∷ ds) [] are all = absurd (omega (arith, ap length are))
  of_one_door order (d ∷ ds) (e ∷ es) are all =
      All-cons (λ (d : DoorTables). AreOfOneDoor d.tables) d ds
      (subst AreOfOneDoor (sym (tables_there d e (ap (λ (l : List ServedDoor). get_or l 0 (served_by d)) are) (All-head (λ (d : DoorTables). All (IsOf d.door (kept_routes_of controller w)) d.tables) d ds all)))
      (tables_of_one_door doors controller w d.door order))
      (of_one_door order ds es (ap (drop 1) are) (All-tail (λ (d : DoorTables). All (IsOf d.door (kept_routes_of controller w)) d.tables) d ds all))

  -- and have the rows of the door
  pub rows_of_all : (ds : List DoorTables) (es : List Door) → map served_by ds ≡ map (served_door doors controller w) es
      → All (λ (d : DoorTables). All (IsOf d.door (kept_routes_of controller w)) d.tables) ds → map (λ (d : DoorTables). rows_with d.tables) ds ≡ map (rows_of doors controller w) es
  rows_of_all [] [] are all = refl
  rows_of_all [] (e ∷ es) are all = absurd (omega (arith, ap length are))
  rows_of_all (d ∷ ds) [] are all = absurd (omega (arith, ap length are))
  rows_of_all (d ∷ ds) (e ∷ es) are all =
      let here : served_by d ≡ served_door doors controller w e = ap (λ (l : List ServedDoor). get_or l 0 (served_by d)) are in
      ap₂ (λ (r : Rows) (rs : List Rows). r ∷ rs)
      (ap rows_with (tables_there d e here (All-head (λ (d : DoorTables). All (IsOf d.door (kept_routes_of controller w)) d.tables) d ds all))
      ∙ tables_have_rows doors controller w d.door ∙ ap (rows_of doors controller w) (own_door d e here))
      (rows_of_all ds es (ap (drop 1) are) (All-tail (λ (d : DoorTables). All (IsOf d.door (kept_routes_of controller w)) d.tables) d ds all))
