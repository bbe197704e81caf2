-- What an EndpointSlice doesn't touch.
use Rattle.std.proofs.Common.{◌≡◌, ◌∙◌, ℕ, ℤ, Bool, true, false, not, ◌&&◌, if◌then◌else◌, List, [], ◌∷◌, cond, codes, filter, flat_map, Option, None, Some, IfSome, option_map, refl, sym, ap, inl, inr}
use Rattle.std.specs.List.{list_any}
use Rattle.std.specs.Option.{option_map_or}
use Rattle.std.specs.Str.{bytes_eq}
use Rattle.gw_text.specs.declared.kind.Kind.TheVariants as kinds
use Rattle.gw_text.specs.model.Doors.{Door}
use Rattle.gw_text.specs.model.Names.{Key, is_given, is_in_namespace, same_key}
use Rattle.gw_text.specs.model.References.{backend_refs_of, backend_state_in, backend_state_of, bad_protocol, each_once, invalid_kind, is_other_protocol, is_permitted, is_slice_of, not_permitted, ready_with, service_port, slice_sockets, sockets_of, state_of_port, state_of_service}
use Rattle.gw_text.specs.model.Routes.{BackendRef, HttpRoute, backend_key}
use Rattle.gw_text.specs.model.Selectors.{label_of}
use Rattle.gw_text.specs.model.Services.{Service, ServicePort}
use Rattle.gw_text.specs.model.Slices.{EndpointSlice, is_ipv4_type}
use Rattle.gw_text.specs.model.Statuses.{is_managed, attached_at, entries_of}
use Rattle.gw_text.specs.model.Stored.{Stored, objects_of}
use Rattle.gw_text.specs.model.World.{World, route_at, route_key, service_at, service_key, slice_key, slices_in, gateway_at}
use Rattle.gw_store.proofs.Digests.{known}
use Rattle.gw_deps.proofs.Choices.{all_two, and_false, any_agree, any_and, any_any, any_none}
use Rattle.gw_deps.proofs.Replacing.{key_is}
use Rattle.gw_deps.specs.Edges.{names_service, service_of}
use Rattle.gw_deps.specs.Indexes.{HasKey, with_next}
use Rattle.gw_deps.specs.Touching.{refers_to, refers_to_slice}
use Rattle.gw_untouched.specs.Untouched.{IsRouteUntouched, IsSameRoute, IsTableFor, RouteStays, GatewayStays}
use Rattle.gw_untouched.proofs.Attached.{AreCounted, gateway_stays}
use Rattle.gw_untouched.proofs.Evaluated.{SameParent, SameState, same_route}
use Rattle.gw_untouched.proofs.Founds.{all_are, bytes_swap, each_false, found_key, if_some_two, none_by, route_stays, untouched_fails, some_is}
use Rattle.gw_untouched.proofs.Tables.{filter_table, filter_objects, not_right}

filter_twice : {X : Type 0} (p q : X → Bool) (xs : List X) → filter p (filter q xs) ≡ filter (λ x. q x && p x) xs
filter_twice p q [] = refl
filter_twice p q (x ∷ xs) =
    elim (known (q x)) [
      | inl is ↦ (rw is (ap (λ t. cond (p x) (x ∷ t) t) (filter_twice p q xs)))
      | inr other ↦ (rw other (filter_twice p q xs))
    ]

-- the slice is of the Service that the reference names
abbrev names_service_of : BackendRef → Stored EndpointSlice → Bool
names_service_of b s = names_service b && option_map_or (same_key (backend_key b)) (service_of s.object) false

-- its sockets count for it
abbrev counts_for : BackendRef → EndpointSlice → Bool
counts_for b e = is_in_namespace b.namespace (slice_key e) && is_slice_of (backend_key b) e

all_four : (i g a c : Bool) → (a && c) ≡ false → (i && (g && a) && c) ≡ false
all_four false g a c e = refl
all_four true false a c e = refl
all_four true true a c e = e

none_named : (i g a : Bool) → (i && (g && a) && false) ≡ false
none_named false g a = refl
none_named true false a = refl
none_named true true a = and_false a

labelled : (k : Key) (e : EndpointSlice) (label : Option (List ℕ)) → option_map_or (same_key k) (option_map (λ name. record { namespace = e.meta.key.namespace; name = name }) label) false ≡ false
    → (is_ipv4_type e.address_type && is_in_namespace k.namespace e.meta.key && option_map_or (bytes_eq k.name) label false) ≡ false
labelled k e None other = none_named (is_ipv4_type e.address_type) (is_given k.namespace) (bytes_eq e.meta.key.namespace k.namespace)
labelled k e (Some name) other =
    all_four (is_ipv4_type e.address_type) (is_given k.namespace) (bytes_eq e.meta.key.namespace k.namespace) (bytes_eq k.name name)
    (ap (λ b. b && bytes_eq k.name name) (bytes_swap e.meta.key.namespace k.namespace) ∙ other)

-- a slice of another Service isn't one of this
other_slice : (k : Key) (e : EndpointSlice) → option_map_or (same_key k) (service_of e) false ≡ false → is_slice_of k e ≡ false
unfolding is_slice_of
other_slice k e other = labelled k e (label_of (codes "kubernetes.io/service-name") e.labels) other

module _ (r : HttpRoute) where
  each_backend : (o : Option Key) → option_map_or (λ service. refers_to service r) o false ≡ list_any (λ b. names_service b && option_map_or (same_key (backend_key b)) o false) (backend_refs_of r)
  each_backend None = sym (any_agree (λ b. names_service b && false) (λ b. false) (λ b. and_false (names_service b)) (backend_refs_of r) ∙ any_none (backend_refs_of r))
  each_backend (Some service) = refl

  by_backend : (key : Key) (xs : List (Stored EndpointSlice))
      → list_any (λ s. same_key (slice_key s.object) key && option_map_or (λ service. refers_to service r) (service_of s.object) false) xs
      ≡ list_any (λ b. list_any (λ s. same_key (slice_key s.object) key && names_service_of b s) xs) (backend_refs_of r)
  by_backend key xs =
      any_agree (λ s. same_key (slice_key s.object) key && option_map_or (λ service. refers_to service r) (service_of s.object) false)
      (λ s. list_any (λ b. same_key (slice_key s.object) key && names_service_of b s) (backend_refs_of r))
      (λ s. ap (λ c. same_key (slice_key s.object) key && c) (each_backend (service_of s.object)) ∙ any_and (same_key (slice_key s.object) key) (λ b. names_service_of b s) (backend_refs_of r)) xs
      ∙ any_any (λ s b. same_key (slice_key s.object) key && names_service_of b s) xs (backend_refs_of r)

-- what counts for the reference, of slices of a namespace
counted : (b : BackendRef) (xs : List (Stored EndpointSlice)) → filter (is_slice_of (backend_key b)) (objects_of (filter (λ s. is_in_namespace b.namespace (slice_key s.object)) xs)) ≡ objects_of (filter (λ s. counts_for b s.object) xs)
counted b xs =
    filter_objects (is_slice_of (backend_key b)) (filter (λ s. is_in_namespace b.namespace (slice_key s.object)) xs)
    ∙ ap (λ t. objects_of t) (filter_twice (λ s. is_slice_of (backend_key b) s.object) (λ s. is_in_namespace b.namespace (slice_key s.object)) xs)

module _ (k : Key) (xs ys : List EndpointSlice) (same : filter (is_slice_of k) ys ≡ filter (is_slice_of k) xs) where
  same_sockets : (l : Key) → l ≡ k → (name : List ℕ) → sockets_of l name ys ≡ sockets_of l name xs
  unfolding sockets_of
  same_sockets l is name = rw is (ap (λ t. each_once (flat_map (slice_sockets name) t)) same)

  same_port : (s : Service) → s.meta.key ≡ k → (p : Option ServicePort) → state_of_port s ys p ≡ state_of_port s xs p
  same_port s is None = refl
  same_port s is (Some p) = ap (λ t. if option_map_or is_other_protocol p.app_protocol false then bad_protocol else ready_with t) (same_sockets s.meta.key is p.name)

  same_service : (port : Option ℕ) (o : Option (Stored Service)) → IfSome o (λ s. same_key (service_key s.object) k ≡ true) → state_of_service port ys (option_map (λ s. s.object) o) ≡ state_of_service port xs (option_map (λ s. s.object) o)
  same_service port None named = refl
  same_service port (Some s) named =
      ap (λ t. if s.object.external_name then invalid_kind else t) (same_port s.object (key_is (service_key s.object) k named) (service_port port s.object))

module _ (controller : List ℕ) (w : World) (key : Key) (next : Option EndpointSlice) (at : ℤ) (changes : ℕ) where
  abbrev pub after : World
  after = record w { slices = with_next slice_key key next at w.slices; changes = changes }

  -- the reference names the Service of no slice of the key
  abbrev IsApart : World → BackendRef → Type 0
  IsApart v b = list_any (λ s. same_key (slice_key s.object) key && names_service_of b s) v.slices ≡ false

  module _ (named : HasKey slice_key key next) (table : IsTableFor slice_key key w.slices) where
    none_counts : (b : BackendRef) → names_service b ≡ true → (xs : List (Stored EndpointSlice)) → list_any (λ s. same_key (slice_key s.object) key && names_service_of b s) xs ≡ false
        → list_any (λ s. same_key (slice_key s.object) key && counts_for b s.object) xs ≡ false
    none_counts b is xs none =
        none_by (λ s. same_key (slice_key s.object) key && names_service_of b s) (λ s. same_key (slice_key s.object) key && counts_for b s.object) xs
        (λ s other. elim (known (same_key (slice_key s.object) key)) [
          | inl own ↦ (
              let names = not_right (same_key (slice_key s.object) key) (names_service_of b s) own other in
              rw (own, other_slice (backend_key b) s.object (not_right (names_service b) (option_map_or (same_key (backend_key b)) (service_of s.object) false) is names))
              (and_false (is_in_namespace b.namespace (slice_key s.object))))
          | inr not_own ↦ (rw not_own refl)
        ]) none

    same_slices : (b : BackendRef) → names_service b ≡ true → IsApart w b → IsApart after b
        → filter (is_slice_of (backend_key b)) (objects_of (slices_in after b.namespace)) ≡ filter (is_slice_of (backend_key b)) (objects_of (slices_in w b.namespace))
    same_slices b is earlier later =
        counted b after.slices
        ∙ (ap (λ t. objects_of t) (filter_table slice_key (counts_for b) key next at w.slices named table (none_counts b is w.slices earlier) (none_counts b is after.slices later))
        ∙ sym (counted b w.slices))

    same_state : (namespace : List ℕ) (b : BackendRef) → IsApart w b → IsApart after b → backend_state_in after namespace b ≡ backend_state_in w namespace b
    unfolding backend_state_in backend_state_of
    same_state namespace b earlier later =
        elim (known (names_service b)) [
          | inl is ↦ (
              rw is (ap (λ t. if not (is_permitted w namespace b) then not_permitted else t)
              (same_service (backend_key b) (objects_of (slices_in w b.namespace)) (objects_of (slices_in after b.namespace)) (same_slices b is earlier later) b.port
              (service_at w (backend_key b)) (found_key service_key (backend_key b) w.services))))
          | inr none ↦ (rw none refl)
        ]

    same : (r : HttpRoute) → refers_to_slice w key r ≡ false → refers_to_slice after key r ≡ false → IsSameRoute controller w after r
    unfolding is_managed
    same r earlier later =
        same_route controller w after r (all_are (SameParent controller w after r) (λ p. refl) r.parent_refs) refl
        (all_two (λ b. IsApart w b) (λ b. IsApart after b) (SameState controller w after r) (same_state r.meta.key.namespace) (backend_refs_of r)
        (each_false (λ b. list_any (λ s. same_key (slice_key s.object) key && names_service_of b s) w.slices) (backend_refs_of r) (sym (by_backend r key w.slices) ∙ earlier))
        (each_false (λ b. list_any (λ s. same_key (slice_key s.object) key && names_service_of b s) after.slices) (backend_refs_of r) (sym (by_backend r key after.slices) ∙ later)))

    pub routes : (k : Key) → IsRouteUntouched w after kinds.EndpointSlice key k → RouteStays controller w after k
    routes k untouched =
        route_stays controller w after k refl
        (if_some_two (λ s. refers_to_slice w key s.object ≡ false) (λ s. refers_to_slice after key s.object ≡ false) (λ s. IsSameRoute controller w after s.object)
        (λ s earlier later. same s.object earlier later) (route_at w k)
        (untouched_fails route_key (refers_to_slice w key) k w.routes untouched.earlier) (untouched_fails route_key (refers_to_slice after key) k w.routes untouched.later))

    -- Gateways are evaluated without it
    pub gateways : (doors : List Door) (k : Key) → GatewayStays doors controller w after k
    unfolding attached_at entries_of is_managed
    gateways doors k =
        gateway_stays doors controller w after k refl refl
        (some_is (λ s. AreCounted doors controller w after k) (λ s place. refl) (gateway_at w k))
