-- The rows of a door, listener by listener and Route by Route.
use Rattle.std.proofs.Common.{◌≡◌, ◌∙◌, refl, sym, ap, subst, ℕ, ◌<◌, Bool, true, false, cond, List, [], ◌∷◌, ◌++◌, filter, map, All, AllPairs, Option, Some, None}
use Rattle.std.proofs.lemmas.List.Elements.{All-cons, All-from_recursion, All-head, All-map, All-nil, All-tail, All-weaker}
use Rattle.std.proofs.lemmas.List.Folds.{flat_map-map}
use Rattle.std.proofs.lemmas.List.Kept.{AllPairs-cons, AllPairs-filter}
use Rattle.std.proofs.lemmas.Simd.{map-map}
use Rattle.std.specs.Cmp.Lexicographic.{nat_list_cmp_total}
use Rattle.std.specs.Cmp.{on_total}
use Rattle.std.specs.List.Sorted.{IsStrictlyIncreasing, IsStrictlySortedBy}
use Rattle.std.specs.List.{enumerate_from, flat_map}
use Rattle.std.specs.Option.{option_map_or}
use Rattle.std.specs.Ordering.{ordering_reverse}
use Rattle.std.specs.declared.cmp.Ordering.TheVariants.{Less, Greater}
use Rattle.gw_rows.specs.model.DoorRows.{RouteHostname, attached_rows, hostname_at, hostname_rows, hostnames_for, listener_rows, managed_at, meets_listener, route_rows, row_of, rows_of, rule_rows, is_served, served_at, served_by, served_listener}
use Rattle.gw_rows.specs.model.Precedence.{AreOneRow}
use Rattle.gw_rows.specs.model.Rows.{Row, ServedListener, first_of_each}
use Rattle.gw_text.specs.model.Doors.{Door}
use Rattle.gw_text.specs.model.Gateways.{Gateway, Listener}
use Rattle.gw_text.specs.model.Hostnames.{Host, same_host}
use Rattle.gw_text.specs.model.Matches.{Match}
use Rattle.gw_text.specs.model.Names.{Key, joined, key_order}
use Rattle.gw_text.specs.model.Plans.{plan_of}
use Rattle.gw_text.specs.model.Routes.{HttpRoute, Rule}
use Rattle.gw_text.specs.model.Statuses.{entries_of, is_attached}
use Rattle.gw_text.specs.model.Stored.{IsInKeyOrder, Stored}
use Rattle.gw_text.specs.model.World.{World, route_key}
use Rattle.gw_match.proofs.Owning.{parts_of_all, flat_alike}
use Rattle.gw_match.proofs.Pairs.{all_flat, all_of, increasing, pairs_flat, pairs_first, pairs_map, pairs_none, pairs_one, pairs_weaker, places_count_up, places_differ}
use Rattle.gw_match.specs.model.Listed.{AreApart, AreOfOneDoor, AreOwnRows, AreRowsOf, AreRowsOfDoor, Listed, is_row_of, rows_in, rows_with}
use Rattle.gw_match.specs.model.ListedOf.{listed_at, listed_of}

-- ---- the rows of one listener

abbrev NotOne : Row → Row → Type 0
NotOne a b = ¬ AreOneRow a b

module _ (w : World) (l : ServedListener) where
  -- What holds of each row of a match holds of all rows of a Route.
  module _ (P : Row → Type 0) where
    of_rule : (s : Stored HttpRoute) (h : RouteHostname) (r : ℕ × Rule)
        → ((m : ℕ × Match) → P (row_of l s h r.0 (plan_of w s.object.meta.key.namespace r.1) m)) → All P (rule_rows w l s h r)
    of_rule s h r each =
        All-map P (row_of l s h r.0 (plan_of w s.object.meta.key.namespace r.1)) (enumerate_from 0 r.1.matches)
        (all_of (λ m. P (row_of l s h r.0 (plan_of w s.object.meta.key.namespace r.1) m)) each (enumerate_from 0 r.1.matches))

    of_hostname : (s : Stored HttpRoute) (h : RouteHostname) → ((r : ℕ × Rule) → All P (rule_rows w l s h r)) → All P (hostname_rows w l s h)
    of_hostname s h each = all_flat P (rule_rows w l s h) (enumerate_from 0 s.object.rules) (all_of (λ r. All P (rule_rows w l s h r)) each (enumerate_from 0 s.object.rules))

    of_route : (s : Stored HttpRoute) → ((h : RouteHostname) (r : ℕ × Rule) (m : ℕ × Match) → P (row_of l s h r.0 (plan_of w s.object.meta.key.namespace r.1) m))
        → All P (route_rows w l s)
    of_route s each =
        all_flat P (hostname_rows w l s) (hostnames_for l.hostname s.object.hostnames)
        (all_of (λ h. All P (hostname_rows w l s h)) (λ h. of_hostname s h (λ r. of_rule s h r (each h r))) (hostnames_for l.hostname s.object.hostnames))

  rule_apart : (s : Stored HttpRoute) (h : RouteHostname) (r : ℕ × Rule) → AreApart (rule_rows w l s h r)
  rule_apart s h r =
      pairs_map NotOne (row_of l s h r.0 (plan_of w s.object.meta.key.namespace r.1)) (enumerate_from 0 r.1.matches)
      (pairs_weaker (λ (m n : ℕ × Match). m.0 ≡ n.0 → ⊥)
      (λ m n. NotOne (row_of l s h r.0 (plan_of w s.object.meta.key.namespace r.1) m) (row_of l s h r.0 (plan_of w s.object.meta.key.namespace r.1) n))
      (λ m n differ one. differ one.place) (enumerate_from 0 r.1.matches) (places_differ 0 r.1.matches))

  hostname_apart : (s : Stored HttpRoute) (h : RouteHostname) → AreApart (hostname_rows w l s h)
  hostname_apart s h =
      pairs_flat NotOne (λ row. row.rule) (λ a b differ one. differ one.rule) (λ (r : ℕ × Rule). r.0) (rule_rows w l s h)
      (λ r. of_rule (λ row. row.rule ≡ r.0) s h r (λ m. refl)) (rule_apart s h) (enumerate_from 0 s.object.rules) (places_differ 0 s.object.rules)

  hosts_differ : (listener : Option Host) (hosts : List Host) → AllPairs (λ (h k : RouteHostname). h.place ≡ k.place → ⊥) (hostnames_for listener hosts)
  unfolding hostnames_for
  hosts_differ listener [] = pairs_one (λ (h k : RouteHostname). h.place ≡ k.place → ⊥) (record { place = 0; hostname = None })
  hosts_differ listener (h ∷ hosts) =
      let differ : ℕ × Host → ℕ × Host → Type 0 = λ p q. p.0 ≡ q.0 → ⊥ in
      pairs_map (λ (h k : RouteHostname). h.place ≡ k.place → ⊥) hostname_at
      (first_of_each (λ a b. same_host a.1 b.1) (filter (λ p. meets_listener listener p.1) (enumerate_from 0 (h ∷ hosts))))
      (pairs_first differ (λ a b. same_host a.1 b.1) (filter (λ p. meets_listener listener p.1) (enumerate_from 0 (h ∷ hosts)))
      (AllPairs-filter differ (λ p. meets_listener listener p.1) (enumerate_from 0 (h ∷ hosts)) (places_differ 0 (h ∷ hosts))))

  route_apart : (s : Stored HttpRoute) → AreApart (route_rows w l s)
  route_apart s =
      pairs_flat NotOne (λ row. row.host_place) (λ a b differ one. differ one.host_place) (λ (h : RouteHostname). h.place) (hostname_rows w l s)
      (λ h. of_hostname (λ row. row.host_place ≡ h.place) s h (λ r. of_rule (λ row. row.host_place ≡ h.place) s h r (λ m. refl)))
      (hostname_apart s) (hostnames_for l.hostname s.object.hostnames) (hosts_differ l.hostname s.object.hostnames)

-- No key stands before itself.
not_before_itself : (k : Key) → key_order k k ≡ Less → ⊥
not_before_itself k less = apart (sym less ∙ ((on_total joined nat_list_cmp_total).antisymm k k ∙ ap ordering_reverse less))
  where
    apart : Less ≡ Greater → ⊥
    apart e = cc e

-- What stands in the order of its keys has different keys.
keys_differ : {Y : Type 0} (key : Y → Key) (ys : List Y) → IsStrictlySortedBy key_order (map key ys) → AllPairs (λ y z. key y ≡ key z → ⊥) ys
unfolding IsStrictlySortedBy
keys_differ key [] order = pairs_none (λ y z. key y ≡ key z → ⊥)
keys_differ {Y} key (y ∷ ys) order =
    AllPairs-cons (λ (a b : Y). key a ≡ key b → ⊥) y ys
    (others ys (All-from_recursion (λ k. key_order (key y) k ≡ Less) (map key ys) order.0)) (keys_differ key ys order.1)
  where
    others : (rest : List Y) → All (λ k. key_order (key y) k ≡ Less) (map key rest) → All (λ (z : Y). key y ≡ key z → ⊥) rest
    others [] all = All-nil (λ (z : Y). key y ≡ key z → ⊥)
    others (z ∷ rest) all =
        All-cons (λ (u : Y). key y ≡ key u → ⊥) z rest
        (λ same. not_before_itself (key y) (subst (λ (k : Key). key_order (key y) k ≡ Less) (sym same) (All-head (λ k. key_order (key y) k ≡ Less) (key z) (map key rest) all)))
        (others rest (All-tail (λ k. key_order (key y) k ≡ Less) (key z) (map key rest) all))

module _ {X : Type 0} where
  all_if : (P : X → Type 0) (b : Bool) (xs : List X) → All P xs → All P (cond b xs [])
  all_if P true xs all = all
  all_if P false xs all = All-nil P

  pairs_if : (R : X → X → Type 0) (b : Bool) (xs : List X) → AllPairs R xs → AllPairs R (cond b xs [])
  pairs_if R true xs pairs = pairs
  pairs_if R false xs pairs = pairs_none R

-- Stored Routes, each in a world of its own.
module _ (controller : List ℕ) (door : Door) (l : ServedListener) where
  abbrev rows_there : World × Stored HttpRoute → List Row
  rows_there x = attached_rows controller x.0 door l x.1

  abbrev key_there : World × Stored HttpRoute → Key
  key_there x = route_key x.1.object

  all_there : (P : Row → Type 0) (x : World × Stored HttpRoute)
      → ((h : RouteHostname) (r : ℕ × Rule) (m : ℕ × Match) → P (row_of l x.1 h r.0 (plan_of x.0 x.1.object.meta.key.namespace r.1) m)) → All P (rows_there x)
  all_there P x each = all_if P (is_attached door.gateway l.number (entries_of controller x.0 x.1.object)) (route_rows x.0 l x.1) (of_route x.0 l P x.1 each)

  -- The rows that a listener has from Routes of different keys are its own, and no two of them are one row.
  pub rows_of_worlds : (xs : List (World × Stored HttpRoute)) → IsStrictlySortedBy key_order (map (λ x. route_key x.1.object) xs)
      → AreRowsOf l (rows_in (map (λ x. attached_rows controller x.0 door l x.1) xs))
  rows_of_worlds xs order = subst (AreRowsOf l) (sym (flat_map-map (λ (rows : List Row). rows) rows_there xs)) (record {
    own = all_flat (λ r. r.listener ≡ l.number) rows_there xs
        (all_of (λ x. All (λ r. r.listener ≡ l.number) (rows_there x)) (λ x. all_there (λ r. r.listener ≡ l.number) x (λ h r m. refl)) xs);
    apart = pairs_flat NotOne (λ row. row.key) (λ a b differ one. differ one.key) key_there rows_there
        (λ x. all_there (λ r. r.key ≡ key_there x) x (λ h r m. refl))
        (λ x. pairs_if NotOne (is_attached door.gateway l.number (entries_of controller x.0 x.1.object)) (route_rows x.0 l x.1) (route_apart x.0 l x.1))
        xs (keys_differ key_there xs order);
  })

-- A stored Route, in this world.
abbrev in_world : World → Stored HttpRoute → World × Stored HttpRoute
in_world w s = (w, s)

module _ (controller : List ℕ) (w : World) (door : Door) (l : ServedListener) where
  -- Those of one world are its own, and no two of them are one row.
  pub rows_of_listener : IsInKeyOrder route_key w.routes → AreRowsOf l (rows_in (map (attached_rows controller w door l) w.routes))
  rows_of_listener order =
      subst (λ (rows : List (List Row)). AreRowsOf l (rows_in rows)) (map-map (λ (x : World × Stored HttpRoute). attached_rows controller x.0 door l x.1) (in_world w) w.routes)
      (rows_of_worlds controller door l (map (in_world w) w.routes)
      (subst (IsStrictlySortedBy key_order) (sym (map-map (λ (x : World × Stored HttpRoute). route_key x.1.object) (in_world w) w.routes)) order))

  joined_rows : rows_in (map (attached_rows controller w door l) w.routes) ≡ flat_map (attached_rows controller w door l) w.routes
  joined_rows = flat_map-map (λ (rows : List Row). rows) (attached_rows controller w door l) w.routes

  -- The rows of the Routes that are attached are those of all, where the others have none.
  attached_alone : (routes : List (Stored HttpRoute))
      → flat_map (attached_rows controller w door l) routes
      ≡ flat_map (route_rows w l) (filter (λ s. is_attached door.gateway l.number (entries_of controller w s.object)) routes)
  attached_alone [] = refl
  attached_alone (s ∷ routes) = by (is_attached door.gateway l.number (entries_of controller w s.object)) refl (attached_alone routes)
    where
      by : (b : Bool) → is_attached door.gateway l.number (entries_of controller w s.object) ≡ b
          → flat_map (attached_rows controller w door l) routes
          ≡ flat_map (route_rows w l) (filter (λ s. is_attached door.gateway l.number (entries_of controller w s.object)) routes)
          → flat_map (attached_rows controller w door l) (s ∷ routes)
          ≡ flat_map (route_rows w l) (filter (λ s. is_attached door.gateway l.number (entries_of controller w s.object)) (s ∷ routes))
      by true e rest = rw e (ap (λ (rows : List Row). route_rows w l s ++ rows) rest)
      by false e rest = rw e rest

  pub rows_of_routes : rows_in (map (attached_rows controller w door l) w.routes) ≡ listener_rows controller w door l
  rows_of_routes = joined_rows ∙ attached_alone w.routes

-- ---- the listeners of a door

flat_same : {X Y : Type 0} (f g : X → List Y) → ((x : X) → f x ≡ g x) → (xs : List X) → flat_map f xs ≡ flat_map g xs
flat_same f g same xs = flat_alike f g xs (all_of (λ x. f x ≡ g x) same xs)

-- The numbers of the served listeners increase.
numbers_by : (doors : List Door) (door : Door) (g : Gateway) → AllPairs (λ (a b : ServedListener). a.number < b.number) (served_by doors door g)
unfolding served_by
numbers_by doors door g =
    let less : ℕ × Listener → ℕ × Listener → Type 0 = λ p q. p.0 < q.0 in
    pairs_map (λ (a b : ServedListener). a.number < b.number) (λ p. served_listener p.0 p.1) (filter (λ p. is_served doors door g p.0 p.1) (enumerate_from 0 g.listeners))
    (AllPairs-filter less (λ p. is_served doors door g p.0 p.1) (enumerate_from 0 g.listeners) (places_count_up 0 g.listeners))

module _ (doors : List Door) (controller : List ℕ) (w : World) (door : Door) where
  numbers_in_turn : AllPairs (λ (a b : ServedListener). a.number < b.number) (served_at doors controller w door)
  unfolding served_at
  numbers_in_turn = by (managed_at controller w door.gateway)
    where
      by : (o : Option Gateway) → AllPairs (λ (a b : ServedListener). a.number < b.number) (option_map_or (served_by doors door) o [])
      by None = pairs_none (λ (a b : ServedListener). a.number < b.number)
      by (Some g) = numbers_by doors door g

  pub numbers_increase : IsStrictlyIncreasing (map (λ l. l.number) (served_at doors controller w door))
  numbers_increase = increasing (map (λ l. l.number) (served_at doors controller w door))
      (pairs_map (λ a b. a < b) (λ (l : ServedListener). l.number) (served_at doors controller w door) numbers_in_turn)

  -- The tables of a door have its rows.
  pub tables_have_rows : rows_with (listed_of doors controller w door) ≡ rows_of doors controller w door
  unfolding rows_of
  tables_have_rows =
      let served = served_at doors controller w door in
      ap (λ (ls : List ServedListener). record { listeners = ls; rows = flat_map (λ t. rows_in t.routes) (listed_of doors controller w door) }) (same_listeners served)
      ∙ ap (λ (rs : List Row). record { listeners = served; rows = rs })
      (flat_map-map (λ (t : Listed). rows_in t.routes) (listed_at controller w door) served
      ∙ flat_same (λ l. rows_in (map (attached_rows controller w door l) w.routes)) (listener_rows controller w door) (rows_of_routes controller w door) served)
    where
      same_listeners : (ls : List ServedListener) → map (λ t. t.listener) (map (listed_at controller w door) ls) ≡ ls
      same_listeners [] = refl
      same_listeners (l ∷ ls) = ap (λ (m : List ServedListener). l ∷ m) (same_listeners ls)

  -- They are those of one door.
  pub tables_of_one_door : IsInKeyOrder route_key w.routes → AreOfOneDoor (listed_of doors controller w door)
  tables_of_one_door order = record {
    numbers = rw (map-map (λ (t : Listed). t.listener.number) (listed_at controller w door) (served_at doors controller w door)) numbers_increase;
    own = All-map (λ t. AreOwnRows t.listener (rows_in t.routes)) (listed_at controller w door) (served_at doors controller w door)
        (all_of (λ l. AreOwnRows l (rows_in (map (attached_rows controller w door l) w.routes))) (λ l. (rows_of_listener controller w door l order).own) (served_at doors controller w door));
  }

  listener_apart : IsInKeyOrder route_key w.routes → (l : ServedListener) → AreRowsOf l (listener_rows controller w door l)
  listener_apart order l = rw (← rows_of_routes controller w door l) (rows_of_listener controller w door l order)

  each_its_own : IsInKeyOrder route_key w.routes
      → All (λ l. filter (is_row_of l) (flat_map (listener_rows controller w door) (served_at doors controller w door)) ≡ listener_rows controller w door l)
      (served_at doors controller w door)
  each_its_own order =
      parts_of_all (λ (l : ServedListener). l.number) (listener_rows controller w door) (served_at doors controller w door) numbers_in_turn
      (all_of (λ l. AreOwnRows l (listener_rows controller w door l)) (λ l. (listener_apart order l).own) (served_at doors controller w door))

  -- The rows of a door stand listener by listener, and no two at a listener are one row.
  pub rows_of_door : IsInKeyOrder route_key w.routes → AreRowsOfDoor (rows_of doors controller w door)
  unfolding rows_of
  rows_of_door order =
      let served = served_at doors controller w door in
      let all = flat_map (listener_rows controller w door) served in
      record {
        numbers = numbers_increase;
        listed = sym (flat_alike (λ l. filter (is_row_of l) all) (listener_rows controller w door) served (each_its_own order));
        apart = All-weaker (λ l. filter (is_row_of l) all ≡ listener_rows controller w door l) (λ l. AreApart (filter (is_row_of l) all))
            (λ l is. subst AreApart (sym is) (listener_apart order l).apart) served (each_its_own order);
      }
