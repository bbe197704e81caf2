-- What is kept of all Routes and Gateways of a world, by their keys.
use Rattle.std.proofs.Common.{◌≡◌, ◌∙◌, ℕ, Bool, true, false, List, [], ◌∷◌, Option, Some, None, IfSome, option_map, map, refl, sym, ap, ap₂, subst, inl, inr}
use Rattle.std.specs.Prelude.{filter}
use Rattle.std.specs.List.{AllByRecursion}
use Rattle.std.specs.List.Sorted.{IsStrictlySortedBy}
use Rattle.std.specs.declared.cmp.Ordering.TheVariants.{Less}
use Rattle.gw_text.specs.model.Chains.{◌>>=◌}
use Rattle.gw_text.specs.model.Doors.{Door}
use Rattle.gw_text.specs.model.Gateways.{Gateway}
use Rattle.gw_text.specs.model.Names.{Key, key_order, same_key}
use Rattle.gw_text.specs.model.Routes.{HttpRoute}
use Rattle.gw_text.specs.model.Statuses.{ClassStatus, GatewayStatus, RouteStatus, Statuses, class_statuses_of, gateway_status_of, gateway_statuses_of, is_managed, route_status_of, route_statuses_of, statuses_of, where_managed}
use Rattle.gw_text.specs.model.Stored.{Stored, IsInKeyOrder, objects_of, stored_at, stored_key}
use Rattle.gw_text.specs.model.World.{World, gateway_at, gateway_key, route_key}
use Rattle.gw_text.proofs.Keys.{higher_from_lower, other_from_higher}
use Rattle.gw_store.proofs.Digests.{known}
use Rattle.gw_deps.proofs.Replacing.{key_is}
use Rattle.gw_eval.specs.Kept.{KeptRoute, kept_route_at, kept_route_of, kept_routes_of}
use Rattle.gw_eval.specs.Results.{gateway_status_at}
use Rattle.gw_kept.proofs.Alike.{alike_are_one}
use Rattle.gw_kept.proofs.Holding.{found_key}
use Rattle.gw_kept.specs.Held.{gateway_status_key, kept_route_key}
use Rattle.gw_kept.specs.Places.{IsInOrder, kept_at}

module _ (doors : List Door) (controller : List ℕ) (w : World) where
  abbrev status : Gateway → GatewayStatus
  status = gateway_status_of doors controller w

  abbrev statuses : List (Stored Gateway) → List GatewayStatus
  statuses gateways = map status (filter (is_managed controller w) (objects_of gateways))

  status_key : (g : Gateway) → gateway_status_key (status g) ≡ gateway_key g
  unfolding gateway_status_of
  status_key g = refl

  none_rest : (k : Key) (xs : List (Stored Gateway)) → AllByRecursion (λ l. key_order k l ≡ Less) (map (stored_key gateway_key) xs) → kept_at gateway_status_key k (statuses xs) ≡ None
  none_rest k [] all = refl
  none_rest k (s ∷ xs) all = elim (known (is_managed controller w s.object)) [
    | inl is ↦ (rw (is, status_key s.object, other_from_higher (gateway_key s.object) k (higher_from_lower k (gateway_key s.object) all.0)) (none_rest k xs all.1))
    | inr other ↦ (rw other (none_rest k xs all.1))
  ]

  kept_one : (k : Key) (s : Stored Gateway) (xs : List (Stored Gateway)) (managed same : Bool) → is_managed controller w s.object ≡ managed → same_key (gateway_key s.object) k ≡ same →
      AllByRecursion (λ l. key_order (gateway_key s.object) l ≡ Less) (map (stored_key gateway_key) xs) →
      kept_at gateway_status_key k (statuses xs) ≡ option_map status (stored_at gateway_key k xs >>= where_managed controller w) →
      kept_at gateway_status_key k (statuses (s ∷ xs)) ≡ option_map status (stored_at gateway_key k (s ∷ xs) >>= where_managed controller w)
  kept_one k s xs true true is here later rest = rw (here, is, status_key s.object, here) refl
  kept_one k s xs true false is here later rest = rw (here, is, status_key s.object, here) rest
  kept_one k s xs false true is here later rest =
      rw (here, is) (none_rest k xs (subst (λ l. AllByRecursion (λ m. key_order l m ≡ Less) (map (stored_key gateway_key) xs)) (key_is (gateway_key s.object) k here) later))
  kept_one k s xs false false is here later rest = rw (here, is) rest

  kept_gateways : (k : Key) (xs : List (Stored Gateway)) → IsInKeyOrder gateway_key xs → kept_at gateway_status_key k (statuses xs) ≡ option_map status (stored_at gateway_key k xs >>= where_managed controller w)
  unfolding IsStrictlySortedBy
  kept_gateways k [] order = refl
  kept_gateways k (s ∷ xs) order = kept_one k s xs (is_managed controller w s.object) (same_key (gateway_key s.object) k) refl refl order.0 (kept_gateways k xs order.1)

  -- the status that is kept under a key is that of its Gateway
  pub gateway_kept : (k : Key) → IsInKeyOrder gateway_key w.gateways → kept_at gateway_status_key k (gateway_statuses_of doors controller w) ≡ gateway_status_at doors controller w k
  gateway_kept k order = kept_gateways k w.gateways order

  all_kept : (P : Key → Type 0) (xs : List (Stored Gateway)) → AllByRecursion P (map (stored_key gateway_key) xs) → AllByRecursion P (map gateway_status_key (statuses xs))
  all_kept P [] all = tt
  all_kept P (s ∷ xs) all = elim (known (is_managed controller w s.object)) [
    | inl is ↦ (rw (is, status_key s.object) (all.0, all_kept P xs all.1))
    | inr other ↦ (rw other (all_kept P xs all.1))
  ]

  ordered : (xs : List (Stored Gateway)) → IsInKeyOrder gateway_key xs → IsInOrder gateway_status_key (statuses xs)
  unfolding IsStrictlySortedBy
  ordered [] order = tt
  ordered (s ∷ xs) order = elim (known (is_managed controller w s.object)) [
    | inl is ↦ (rw (is, status_key s.object) (all_kept (λ l. key_order (gateway_key s.object) l ≡ Less) xs order.0, ordered xs order.1))
    | inr other ↦ (rw other (ordered xs order.1))
  ]

  -- the statuses stand in the order of their keys
  pub gateways_ordered : IsInKeyOrder gateway_key w.gateways → IsInOrder gateway_status_key (gateway_statuses_of doors controller w)
  gateways_ordered order = ordered w.gateways order

kept_route : (f : Stored HttpRoute → KeptRoute) (k : Key) (xs : List (Stored HttpRoute)) → ((s : Stored HttpRoute) → kept_route_key (f s) ≡ route_key s.object) →
    kept_at kept_route_key k (map f xs) ≡ option_map f (stored_at route_key k xs)
kept_route f k [] keys = refl
kept_route f k (s ∷ xs) keys = elim (known (same_key (route_key s.object) k)) [
  | inl is ↦ (let here : same_key (kept_route_key (f s)) k ≡ true = ap (λ l. same_key l k) (keys s) ∙ is in rw (here, is) refl)
  | inr other ↦ (let apart : same_key (kept_route_key (f s)) k ≡ false = ap (λ l. same_key l k) (keys s) ∙ other in rw (apart, other) (kept_route f k xs keys))
]

-- what is kept under a key is that of its Route
pub route_kept : (controller : List ℕ) (w : World) (kept : List KeptRoute) (k : Key) → kept ≡ kept_routes_of controller w → kept_at kept_route_key k kept ≡ kept_route_at controller w k
route_kept controller w kept k are = ap (kept_at kept_route_key k) are ∙ kept_route (kept_route_of controller w) k w.routes (λ s. refl)

keys_kept : (controller : List ℕ) (w : World) (xs : List (Stored HttpRoute)) → map kept_route_key (map (kept_route_of controller w) xs) ≡ map (stored_key route_key) xs
keys_kept controller w [] = refl
keys_kept controller w (s ∷ xs) = ap (λ t. route_key s.object ∷ t) (keys_kept controller w xs)

-- and stands in the order of its keys
pub routes_ordered : (controller : List ℕ) (w : World) (kept : List KeptRoute) → kept ≡ kept_routes_of controller w → IsInKeyOrder route_key w.routes → IsInOrder kept_route_key kept
routes_ordered controller w kept are order =
    subst (λ keys. IsStrictlySortedBy key_order keys) (sym (ap (map kept_route_key) are ∙ keys_kept controller w w.routes)) order

statuses_kept : (controller : List ℕ) (w : World) (xs : List (Stored HttpRoute)) → map (λ (k : KeptRoute). k.status) (map (kept_route_of controller w) xs) ≡ map (route_status_of controller w) (objects_of xs)
statuses_kept controller w [] = refl
statuses_kept controller w (s ∷ xs) = ap (λ t. route_status_of controller w s.object ∷ t) (statuses_kept controller w xs)

-- the statuses of all Routes are kept
pub routes_of_kept : (controller : List ℕ) (w : World) (kept : List KeptRoute) → kept ≡ kept_routes_of controller w → map (λ (k : KeptRoute). k.status) kept ≡ route_statuses_of controller w
routes_of_kept controller w kept are = ap (map (λ (k : KeptRoute). k.status)) are ∙ statuses_kept controller w w.routes

abbrev those : List ClassStatus → List GatewayStatus → List RouteStatus → Statuses
those classes gateways routes = record { classes = classes; gateways = gateways; routes = routes }

-- all statuses, kind by kind
pub all_statuses : (doors : List Door) (controller : List ℕ) (w : World) (classes : List ClassStatus) (gateways : List GatewayStatus) (routes : List RouteStatus) →
    classes ≡ class_statuses_of controller w → gateways ≡ gateway_statuses_of doors controller w → routes ≡ route_statuses_of controller w →
    those classes gateways routes ≡ statuses_of doors controller w
all_statuses doors controller w classes gateways routes first second third =
    ap (λ (c : List ClassStatus). those c gateways routes) first
    ∙ ap₂ (λ (g : List GatewayStatus) (r : List RouteStatus). those (class_statuses_of controller w) g r) second third

-- the key of a status is the one under which it is kept
pub status_under : (doors : List Door) (controller : List ℕ) (w : World) (key : Key) (o : Option GatewayStatus) → o ≡ gateway_status_at doors controller w key
    → IfSome o (λ st. gateway_status_key st ≡ key)
status_under doors controller w key o is = subst (λ o. IfSome o (λ st. gateway_status_key st ≡ key)) (sym is) (by (gateway_at w key) (found_key gateway_key key w.gateways))
  where
    of_managed : (s : Stored Gateway) (b : Bool) → is_managed controller w s.object ≡ b → gateway_key s.object ≡ key
        → IfSome (option_map (gateway_status_of doors controller w) (where_managed controller w s)) (λ st. gateway_status_key st ≡ key)
    of_managed s true managed here = rw managed (status_key doors controller w s.object ∙ here)
    of_managed s false managed here = rw managed tt

    by : (found : Option (Stored Gateway)) → IfSome found (λ s. gateway_key s.object ≡ key)
        → IfSome (option_map (gateway_status_of doors controller w) (found >>= where_managed controller w)) (λ st. gateway_status_key st ≡ key)
    by None here = tt
    by (Some s) here = of_managed s (is_managed controller w s.object) refl here

-- where each key is told what it is to be, the list is that of all Routes
pub all_routes_told : (controller : List ℕ) (w : World) (kept : List KeptRoute) → IsInKeyOrder route_key w.routes → IsInOrder kept_route_key kept
    → ((k : Key) → kept_at kept_route_key k kept ≡ kept_route_at controller w k) → kept ≡ kept_routes_of controller w
all_routes_told controller w kept routes order told =
    alike_are_one kept_route_key kept (kept_routes_of controller w) order (routes_ordered controller w (kept_routes_of controller w) refl routes)
    (λ k. told k ∙ sym (route_kept controller w (kept_routes_of controller w) k refl))

-- and so are the statuses of all Gateways
pub all_gateways_told : (doors : List Door) (controller : List ℕ) (w : World) (all : List GatewayStatus) → IsInKeyOrder gateway_key w.gateways → IsInOrder gateway_status_key all
    → ((k : Key) → kept_at gateway_status_key k all ≡ gateway_status_at doors controller w k) → all ≡ gateway_statuses_of doors controller w
all_gateways_told doors controller w all gateways order told =
    alike_are_one gateway_status_key all (gateway_statuses_of doors controller w) order (gateways_ordered doors controller w gateways)
    (λ k. told k ∙ sym (gateway_kept doors controller w k gateways))
