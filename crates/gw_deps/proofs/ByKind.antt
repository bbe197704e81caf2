-- Which Routes and Gateways depend on an object of each kind: those that the edges of the index name.
use Rattle.std.proofs.Common.{◌≡◌, ◌∙◌, ℤ, Bool, true, false, ◌&&◌, ◌||◌, List, [], ◌∷◌, map, filter, Option, None, Some, is_some, refl, sym, ap, ap₂, inl, inr}
use Rattle.std.specs.List.{AllByRecursion, list_any}
use Rattle.std.specs.List.Sorted.{IsStrictlySortedBy}
use Rattle.std.specs.Option.{option_map_or}
use Rattle.std.specs.declared.cmp.Ordering.TheVariants.{Less}
use Rattle.gw_text.specs.declared.kind.Kind.{Kind}
use Rattle.gw_text.specs.declared.kind.Kind.TheVariants as kinds
use Rattle.gw_text.specs.model.GatewayClasses.{GatewayClass}
use Rattle.gw_text.specs.model.Gateways.{Gateway}
use Rattle.gw_text.specs.model.Grants.{ReferenceGrant}
use Rattle.gw_text.specs.model.Names.{Key, cluster_key, key_order, same_key}
use Rattle.gw_text.specs.model.Namespaces.{Namespace}
use Rattle.gw_text.specs.model.Objects.{a_class, a_gateway, a_route, a_grant, a_namespace, a_service, a_slice, puts, removes}
use Rattle.gw_text.specs.model.Routes.{HttpRoute}
use Rattle.gw_text.specs.model.Services.{Service}
use Rattle.gw_text.specs.model.Slices.{EndpointSlice}
use Rattle.gw_text.specs.model.Stored.{Stored, stored_at, put, remove, IsInKeyOrder}
use Rattle.gw_text.specs.model.World.{World, class_key, gateway_key, route_key, slice_key, gateway_at, route_at}
use Rattle.gw_text.proofs.Keys.{other_from_lower}
use Rattle.gw_store.proofs.Digests.{known}
use Rattle.gw_deps.specs.Edges.{edge_to, has_edge, has_key, class_edges, parent_edges, namespace_edges, service_edges, grant_edges, service_of}
use Rattle.gw_deps.specs.Indexes.{IsIndexOf, Index}
use Rattle.gw_deps.specs.Touching.{AreTouched, AreTouchedIn, Touched, depends_on_slice, gateways_in, has_held_parent, is_in, is_of_class, is_some_with, is_under, refers_into, refers_to, refers_to_slice, routes_in, touches_gateway}
use Rattle.gw_deps.proofs.Choices.{all_two, and_false, and_swap, any_agree, any_agree_all, any_and, any_filter, any_map, any_none, crossed, or_both, or_false, or_swap}
use Rattle.gw_deps.proofs.Depending.{any_alike, class_given, class_named, depends, grant_given, grant_named, held, held_over, held_parents, keys_of, namespace_given, namespace_named, parent_given, service_given}
use Rattle.gw_deps.proofs.Replacing.{all_mapped, found_with, put_own, removed_own, same_self, same_through}

-- an object of a key, and the key that is looked for
own_key : (g key k : Key) → (same_key key k && same_key g key) ≡ (same_key g key && same_key g k)
own_key g key k =
    elim (known (same_key g key)) [
      | inl is ↦ (rw is (and_swap (same_key key k) true ∙ sym (same_through g key k is)))
      | inr other ↦ (rw other (and_false (same_key key k)))
    ]

no_gateways : (w : World) (k : Key) → has_key k (map (λ s. gateway_key s.object) (filter (λ s. false) w.gateways)) ≡ false
no_gateways w k = keys_of gateway_key (λ g. false) k w.gateways ∙ any_none w.gateways

-- in order, each object is the one that is found by its key
found_later : {T : Type 0} (key : T → Key) (x : Stored T) (xs : List (Stored T)) (s : Stored T) → key_order (key x.object) (key s.object) ≡ Less → stored_at key (key s.object) xs ≡ Some s → stored_at key (key s.object) (x ∷ xs) ≡ Some s
found_later key x xs s later found = rw (other_from_lower (key x.object) (key s.object) later) found

all_found : {T : Type 0} (key : T → Key) (xs : List (Stored T)) → IsInKeyOrder key xs → AllByRecursion (λ s. stored_at key (key s.object) xs ≡ Some s) xs
unfolding IsStrictlySortedBy
all_found key [] order = tt
all_found key (x ∷ xs) order = (
  rw (same_self (key x.object)) refl,
  all_two (λ s. key_order (key x.object) (key s.object) ≡ Less) (λ s. stored_at key (key s.object) xs ≡ Some s) (λ s. stored_at key (key s.object) (x ∷ xs) ≡ Some s)
      (found_later key x xs) xs (all_mapped key (key x.object) xs order.0) (all_found key xs order.1),
)

all_step : {X : Type 0} (P Q : X → Type 0) → ((x : X) → P x → Q x) → (xs : List X) → AllByRecursion P xs → AllByRecursion Q xs
all_step P Q step [] all = tt
all_step P Q step (x ∷ xs) all = (step x all.0, all_step P Q step xs all.1)

own_found : {T : Type 0} (key : T → Key) (a q : T → Bool) (xs : List (Stored T)) → IsInKeyOrder key xs
    → list_any (λ s. a s.object && is_some_with q (stored_at key (key s.object) xs)) xs ≡ list_any (λ s. a s.object && q s.object) xs
own_found key a q xs order =
    any_agree_all (λ s. a s.object && is_some_with q (stored_at key (key s.object) xs)) (λ s. a s.object && q s.object) xs
    (all_step (λ s. stored_at key (key s.object) xs ≡ Some s) (λ s. (a s.object && is_some_with q (stored_at key (key s.object) xs)) ≡ (a s.object && q s.object))
    (λ s found. ap (λ o. a s.object && is_some_with q o) found) xs (all_found key xs order))

module _ (w : World) (i : Index) (is : IsIndexOf w i) (key : Key) (t : Touched) where
  pub by_class : ((k : Key) → has_key k t.gateways ≡ has_edge (edge_to k (cluster_key key.name)) i.by_class.list)
      → ((k : Key) → has_key k t.routes ≡ list_any (λ g. has_edge (edge_to k g) i.by_gateway.list) t.gateways) → AreTouchedIn w kinds.GatewayClass key t
  by_class gateways routes =
      let found : (k : Key) → has_key k t.gateways ≡ has_key k (gateways_in w kinds.GatewayClass key) = λ k.
      gateways k ∙ (is.by_class (edge_to k (cluster_key key.name)) ∙ (depends gateway_key class_edges class_named class_given k (cluster_key key.name) w.gateways ∙ sym (keys_of gateway_key (is_of_class key.name) k w.gateways))) in
      record {
        routes = λ k.
            let under : Key → Bool = λ g. has_edge (edge_to k g) i.by_gateway.list in
            routes k
            ∙ (any_alike under t.gateways (gateways_in w kinds.GatewayClass key) found
            ∙ (any_map under (λ s. gateway_key s.object) (filter (λ s. is_of_class key.name s.object) w.gateways)
            ∙ (any_filter (λ s. under (gateway_key s.object)) (λ s. is_of_class key.name s.object) w.gateways
            ∙ (any_agree (λ s. is_of_class key.name s.object && under (gateway_key s.object)) (λ s. is_of_class key.name s.object && list_any (λ r. is_under (gateway_key s.object) r.object && same_key (route_key r.object) k) w.routes)
            (λ s. ap (λ b. is_of_class key.name s.object && b) (is.by_gateway (edge_to k (gateway_key s.object)) ∙ depends route_key parent_edges is_under parent_given k (gateway_key s.object) w.routes)) w.gateways
            ∙ (crossed (λ s. is_of_class key.name s.object) (λ s r. is_under (gateway_key s.object) r.object) (λ r. same_key (route_key r.object) k) w.gateways w.routes
            ∙ sym (keys_of route_key (λ r. list_any (λ s. is_of_class key.name s.object && is_under (gateway_key s.object) r) w.gateways) k w.routes))))));
        gateways = found;
      }

  pub by_gateway : ((k : Key) → has_key k t.routes ≡ has_edge (edge_to k key) i.by_gateway.list)
      → ((k : Key) → has_key k t.gateways ≡ (same_key key k && is_some (gateway_at w key))) → AreTouchedIn w kinds.Gateway key t
  by_gateway routes gateways = record {
    routes = λ k. routes k ∙ (is.by_gateway (edge_to k key) ∙ (depends route_key parent_edges is_under parent_given k key w.routes ∙ sym (keys_of route_key (is_under key) k w.routes)));
    gateways = λ k.
        gateways k
        ∙ (ap (λ b. same_key key k && b) (held gateway_key key w.gateways)
        ∙ (any_and (same_key key k) (λ s. same_key (gateway_key s.object) key) w.gateways
        ∙ (any_agree (λ s. same_key key k && same_key (gateway_key s.object) key) (λ s. same_key (gateway_key s.object) key && same_key (gateway_key s.object) k) (λ s. own_key (gateway_key s.object) key k) w.gateways
        ∙ sym (keys_of gateway_key (λ g. same_key (gateway_key g) key) k w.gateways))));
  }

  pub by_route : IsInKeyOrder route_key w.routes → ((k : Key) → has_key k t.routes ≡ is_some_with (λ r. same_key r.meta.key k) (route_at w key))
      → ((k : Key) → has_key k t.gateways ≡ is_some_with (has_held_parent w k) (route_at w key)) → AreTouchedIn w kinds.HttpRoute key t
  by_route order routes gateways = record {
    routes = λ k. routes k ∙ (found_with route_key (λ r. same_key (route_key r) k) key w.routes order ∙ sym (keys_of route_key (λ r. same_key (route_key r) key) k w.routes));
    gateways = λ k.
        gateways k
        ∙ (found_with route_key (has_held_parent w k) key w.routes order
        ∙ (held_over w k (λ r. same_key (route_key r) key) w.routes ∙ sym (keys_of gateway_key (touches_gateway w kinds.HttpRoute key) k w.gateways)));
  }

  pub by_grant : ((k : Key) → has_key k t.routes ≡ has_edge (edge_to k (cluster_key key.namespace)) i.by_grant.list) → ((k : Key) → has_key k t.gateways ≡ false) → AreTouchedIn w kinds.ReferenceGrant key t
  by_grant routes gateways = record {
    routes = λ k. routes k ∙ (is.by_grant (edge_to k (cluster_key key.namespace)) ∙ (depends route_key grant_edges grant_named grant_given k (cluster_key key.namespace) w.routes ∙ sym (keys_of route_key (refers_into key.namespace) k w.routes)));
    gateways = λ k. gateways k ∙ sym (no_gateways w k);
  }

  pub by_namespace : IsInKeyOrder route_key w.routes → ((k : Key) → has_key k t.routes ≡ has_edge (edge_to k (cluster_key key.name)) i.by_namespace.list)
      → ((k : Key) → has_key k t.gateways ≡ list_any (λ r. is_some_with (has_held_parent w k) (route_at w r)) t.routes) → AreTouchedIn w kinds.Namespace key t
  by_namespace order routes gateways =
      let found : (k : Key) → has_key k t.routes ≡ has_key k (routes_in w kinds.Namespace key) = λ k.
      routes k ∙ (is.by_namespace (edge_to k (cluster_key key.name)) ∙ (depends route_key namespace_edges namespace_named namespace_given k (cluster_key key.name) w.routes ∙ sym (keys_of route_key (is_in key.name) k w.routes))) in
      record {
        routes = found;
        gateways = λ k.
            let over : Key → Bool = λ r. is_some_with (has_held_parent w k) (route_at w r) in
            gateways k
            ∙ (any_alike over t.routes (routes_in w kinds.Namespace key) found
            ∙ (any_map over (λ s. route_key s.object) (filter (λ s. is_in key.name s.object) w.routes)
            ∙ (any_filter (λ s. over (route_key s.object)) (λ s. is_in key.name s.object) w.routes
            ∙ (own_found route_key (is_in key.name) (has_held_parent w k) w.routes order
            ∙ (held_over w k (is_in key.name) w.routes ∙ sym (keys_of gateway_key (touches_gateway w kinds.Namespace key) k w.gateways))))));
      }

  pub by_service : ((k : Key) → has_key k t.routes ≡ has_edge (edge_to k key) i.by_service.list) → ((k : Key) → has_key k t.gateways ≡ false) → AreTouchedIn w kinds.Service key t
  by_service routes gateways = record {
    routes = λ k. routes k ∙ (is.by_service (edge_to k key) ∙ (depends route_key service_edges refers_to service_given k key w.routes ∙ sym (keys_of route_key (refers_to key) k w.routes)));
    gateways = λ k. gateways k ∙ sym (no_gateways w k);
  }

-- a Route refers to the Service of the slice
abbrev refers_by : EndpointSlice → HttpRoute → Bool
refers_by e r = option_map_or (λ service. refers_to service r) (service_of e) false

module _ (w : World) (i : Index) (is : IsIndexOf w i) where
  on_service : (k : Key) (service : Option Key) → option_map_or (λ s. has_edge (edge_to k s) i.by_service.list) service false ≡ list_any (λ r. option_map_or (λ s. refers_to s r.object) service false && same_key (route_key r.object) k) w.routes
  on_service k None = sym (any_none w.routes)
  on_service k (Some s) = is.by_service (edge_to k s) ∙ depends route_key service_edges refers_to service_given k s w.routes

  pub on_slice : (k : Key) (e : EndpointSlice) → depends_on_slice i.by_service.list k e ≡ list_any (λ r. refers_by e r.object && same_key (route_key r.object) k) w.routes
  on_slice k e = on_service k (service_of e)

  pub by_slice : (key : Key) (t : Touched) → IsInKeyOrder slice_key w.slices → ((k : Key) → has_key k t.routes ≡ is_some_with (depends_on_slice i.by_service.list k) (stored_at slice_key key w.slices))
      → ((k : Key) → has_key k t.gateways ≡ false) → AreTouchedIn w kinds.EndpointSlice key t
  by_slice key t order routes gateways = record {
    routes = λ k.
        routes k
        ∙ (found_with slice_key (depends_on_slice i.by_service.list k) key w.slices order
        ∙ (any_agree (λ s. same_key (slice_key s.object) key && depends_on_slice i.by_service.list k s.object) (λ s. same_key (slice_key s.object) key && list_any (λ r. refers_by s.object r.object && same_key (route_key r.object) k) w.routes)
        (λ s. ap (λ b. same_key (slice_key s.object) key && b) (on_slice k s.object)) w.slices
        ∙ (crossed (λ s. same_key (slice_key s.object) key) (λ s r. refers_by s.object r.object) (λ r. same_key (route_key r.object) k) w.slices w.routes
        ∙ sym (keys_of route_key (refers_to_slice w key) k w.routes))));
    gateways = λ k. gateways k ∙ sym (no_gateways w k);
  }

-- what was, and what comes
joined : (n x o a b : Bool) → n ≡ (x || o) → o ≡ a → b ≡ x → n ≡ (a || b)
joined n x o a b new old late = new ∙ (or_swap x o ∙ ap₂ (λ c d. c || d) old (sym late))

stays : (n a b : Bool) → n ≡ a → b ≡ a → n ≡ (a || b)
stays n a b new late = new ∙ (sym (or_both a) ∙ ap (λ c. a || c) (sym late))

goes : (n a b : Bool) → n ≡ a → b ≡ false → n ≡ (a || b)
goes n a b new late = new ∙ (sym (or_false a) ∙ ap (λ c. a || c) (sym late))

module _ (w : World) (at : ℤ) (t : Touched) where
  pub after_class : (x : GatewayClass) → AreTouchedIn w kinds.GatewayClass (class_key x) t → AreTouched w (puts (a_class x)) at t
  after_class x before = record { routes = λ k. stays _ _ _ (before.routes k) refl; gateways = λ k. stays _ _ _ (before.gateways k) refl }

  pub after_grant : (x : ReferenceGrant) → AreTouchedIn w kinds.ReferenceGrant x.meta.key t → AreTouched w (puts (a_grant x)) at t
  after_grant x before = record { routes = λ k. stays _ _ _ (before.routes k) refl; gateways = λ k. stays _ _ _ (before.gateways k) refl }

  pub after_namespace : (x : Namespace) → AreTouchedIn w kinds.Namespace x.meta.key t → AreTouched w (puts (a_namespace x)) at t
  after_namespace x before = record { routes = λ k. stays _ _ _ (before.routes k) refl; gateways = λ k. stays _ _ _ (before.gateways k) refl }

  pub after_service : (x : Service) → AreTouchedIn w kinds.Service x.meta.key t → AreTouched w (puts (a_service x)) at t
  after_service x before = record { routes = λ k. stays _ _ _ (before.routes k) refl; gateways = λ k. stays _ _ _ (before.gateways k) refl }

  gateways_naming : (k key : Key) (routes : List (Stored HttpRoute)) → list_any (λ g. list_any (λ s. same_key (route_key s.object) key && is_under (gateway_key g.object) s.object) (remove route_key key routes) && same_key (gateway_key g.object) k) w.gateways ≡ false
  gateways_naming k key routes =
      any_agree (λ g. list_any (λ s. same_key (route_key s.object) key && is_under (gateway_key g.object) s.object) (remove route_key key routes) && same_key (gateway_key g.object) k) (λ g. false)
      (λ g. ap (λ b. b && same_key (gateway_key g.object) k) (removed_own route_key (is_under (gateway_key g.object)) key routes)) w.gateways
      ∙ any_none w.gateways

  routes_by_slice : (k key : Key) (slices : List (Stored EndpointSlice)) → list_any (λ r. list_any (λ s. same_key (slice_key s.object) key && refers_by s.object r.object) (remove slice_key key slices) && same_key (route_key r.object) k) w.routes ≡ false
  routes_by_slice k key slices =
      any_agree (λ r. list_any (λ s. same_key (slice_key s.object) key && refers_by s.object r.object) (remove slice_key key slices) && same_key (route_key r.object) k) (λ r. false)
      (λ r. ap (λ b. b && same_key (route_key r.object) k) (removed_own slice_key (λ e. refers_by e r.object) key slices)) w.routes
      ∙ any_none w.routes

  -- after a removal nothing depends on the object by what it says itself
  pub after_removal : (kind : Kind) (key : Key) → AreTouchedIn w kind key t → AreTouched w (removes kind key) at t
  after_removal kinds.GatewayClass key before = record { routes = λ k. stays _ _ _ (before.routes k) refl; gateways = λ k. stays _ _ _ (before.gateways k) refl }
  after_removal kinds.Gateway key before = record {
    routes = λ k. stays _ _ _ (before.routes k) refl;
    gateways = λ k. goes _ _ _ (before.gateways k) (keys_of gateway_key (λ g. same_key (gateway_key g) key) k (remove gateway_key key w.gateways) ∙ removed_own gateway_key (λ g. same_key (gateway_key g) k) key w.gateways);
  }
  after_removal kinds.HttpRoute key before = record {
    routes = λ k. goes _ _ _ (before.routes k) (keys_of route_key (λ r. same_key (route_key r) key) k (remove route_key key w.routes) ∙ removed_own route_key (λ r. same_key (route_key r) k) key w.routes);
    gateways = λ k. goes _ _ _ (before.gateways k) (keys_of gateway_key (λ g. list_any (λ s. same_key (route_key s.object) key && is_under (gateway_key g) s.object) (remove route_key key w.routes)) k w.gateways ∙ gateways_naming k key w.routes);
  }
  after_removal kinds.ReferenceGrant key before = record { routes = λ k. stays _ _ _ (before.routes k) refl; gateways = λ k. stays _ _ _ (before.gateways k) refl }
  after_removal kinds.Namespace key before = record { routes = λ k. stays _ _ _ (before.routes k) refl; gateways = λ k. stays _ _ _ (before.gateways k) refl }
  after_removal kinds.Service key before = record { routes = λ k. stays _ _ _ (before.routes k) refl; gateways = λ k. stays _ _ _ (before.gateways k) refl }
  after_removal kinds.EndpointSlice key before = record {
    routes = λ k. goes _ _ _ (before.routes k) (keys_of route_key (λ r. list_any (λ s. same_key (slice_key s.object) key && refers_by s.object r) (remove slice_key key w.slices)) k w.routes ∙ routes_by_slice k key w.slices);
    gateways = λ k. stays _ _ _ (before.gateways k) refl;
  }

module _ (w : World) (at : ℤ) (old t : Touched) where
  pub after_gateway : (x : Gateway) → AreTouchedIn w kinds.Gateway (gateway_key x) old → ((k : Key) → has_key k t.routes ≡ has_key k old.routes)
      → ((k : Key) → has_key k t.gateways ≡ (same_key (gateway_key x) k || has_key k old.gateways)) → AreTouched w (puts (a_gateway x)) at t
  after_gateway x before routes gateways = record {
    routes = λ k. stays _ _ _ (routes k ∙ before.routes k) refl;
    gateways = λ k. joined _ (same_key (gateway_key x) k) (has_key k old.gateways) _ _ (gateways k) (before.gateways k)
        (keys_of gateway_key (λ g. same_key (gateway_key g) (gateway_key x)) k (put gateway_key x at w.gateways) ∙ put_own gateway_key (λ g. same_key (gateway_key g) k) x at w.gateways);
  }

  pub after_route : (x : HttpRoute) → AreTouchedIn w kinds.HttpRoute (route_key x) old → ((k : Key) → has_key k t.routes ≡ (same_key (route_key x) k || has_key k old.routes))
      → ((k : Key) → has_key k t.gateways ≡ (has_held_parent w k x || has_key k old.gateways)) → AreTouched w (puts (a_route x)) at t
  after_route x before routes gateways = record {
    routes = λ k. joined _ (same_key (route_key x) k) (has_key k old.routes) _ _ (routes k) (before.routes k)
        (keys_of route_key (λ r. same_key (route_key r) (route_key x)) k (put route_key x at w.routes) ∙ put_own route_key (λ r. same_key (route_key r) k) x at w.routes);
    gateways = λ k. joined _ (has_held_parent w k x) (has_key k old.gateways) _ _ (gateways k) (before.gateways k)
        (keys_of gateway_key (λ g. list_any (λ s. same_key (route_key s.object) (route_key x) && is_under (gateway_key g) s.object) (put route_key x at w.routes)) k w.gateways
        ∙ (any_agree (λ g. list_any (λ s. same_key (route_key s.object) (route_key x) && is_under (gateway_key g.object) s.object) (put route_key x at w.routes) && same_key (gateway_key g.object) k) (λ g. is_under (gateway_key g.object) x && same_key (gateway_key g.object) k)
        (λ g. ap (λ b. b && same_key (gateway_key g.object) k) (put_own route_key (is_under (gateway_key g.object)) x at w.routes)) w.gateways
        ∙ sym (held_parents w k x)));
  }

  pub after_slice : (i : Index) → IsIndexOf w i → (x : EndpointSlice) → AreTouchedIn w kinds.EndpointSlice (slice_key x) old → ((k : Key) → has_key k t.routes ≡ (depends_on_slice i.by_service.list k x || has_key k old.routes))
      → ((k : Key) → has_key k t.gateways ≡ has_key k old.gateways) → AreTouched w (puts (a_slice x)) at t
  after_slice i is x before routes gateways = record {
    routes = λ k. joined _ (depends_on_slice i.by_service.list k x) (has_key k old.routes) _ _ (routes k) (before.routes k)
        (keys_of route_key (λ r. list_any (λ s. same_key (slice_key s.object) (slice_key x) && refers_by s.object r) (put slice_key x at w.slices)) k w.routes
        ∙ (any_agree (λ r. list_any (λ s. same_key (slice_key s.object) (slice_key x) && refers_by s.object r.object) (put slice_key x at w.slices) && same_key (route_key r.object) k) (λ r. refers_by x r.object && same_key (route_key r.object) k)
        (λ r. ap (λ b. b && same_key (route_key r.object) k) (put_own slice_key (λ e. refers_by e r.object) x at w.slices)) w.routes
        ∙ sym (on_slice w i is k x)));
    gateways = λ k. stays _ _ _ (gateways k ∙ before.gateways k) refl;
  }
