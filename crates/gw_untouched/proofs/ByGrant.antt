-- What a ReferenceGrant doesn't touch.
use Rattle.std.proofs.Common.{◌≡◌, ◌∙◌, ℕ, ℤ, false, not, ◌&&◌, ◌||◌, List, Option, option_map, refl, ap, inl, inr}
use Rattle.std.specs.List.{list_any}
use Rattle.std.specs.Str.{bytes_eq}
use Rattle.gw_text.specs.declared.kind.Kind.TheVariants as kinds
use Rattle.gw_text.specs.model.Doors.{Door}
use Rattle.gw_text.specs.model.Grants.{ReferenceGrant}
use Rattle.gw_text.specs.model.Names.{Key, is_given, is_in_namespace, same_key}
use Rattle.gw_text.specs.model.References.{backend_refs_of, backend_state_in, backend_state_of, granted, is_permitted}
use Rattle.gw_text.specs.model.Routes.{BackendRef, HttpRoute, backend_key}
use Rattle.gw_text.specs.model.Statuses.{is_managed, attached_at, entries_of}
use Rattle.gw_text.specs.model.Stored.{Stored, objects_of}
use Rattle.gw_text.specs.model.World.{World, grant_key, grants_in, route_at, route_key, service_at, slices_in, gateway_at}
use Rattle.gw_store.proofs.Digests.{known}
use Rattle.gw_deps.proofs.Choices.{and_false, any_agree, any_none}
use Rattle.gw_deps.proofs.Replacing.{key_is}
use Rattle.gw_deps.specs.Edges.{leaves}
use Rattle.gw_deps.specs.Indexes.{HasKey, with_next}
use Rattle.gw_deps.specs.Touching.{refers_into}
use Rattle.gw_untouched.specs.Untouched.{IsRouteUntouched, IsSameRoute, IsTableFor, RouteStays, GatewayStays}
use Rattle.gw_untouched.proofs.Attached.{AreCounted, gateway_stays}
use Rattle.gw_untouched.proofs.Evaluated.{SameParent, SameState, same_route}
use Rattle.gw_untouched.proofs.Founds.{all_are, all_by, bytes_swap, each_false, if_some, route_stays, untouched_fails, some_is}
use Rattle.gw_untouched.proofs.Tables.{filter_table, not_right}

-- a grant of another namespace isn't in this one
elsewhere : (namespace : List ℕ) (key k : Key) → bytes_eq namespace key.namespace ≡ false → (same_key k key && is_in_namespace namespace k) ≡ false
elsewhere namespace key k other =
    elim (known (same_key k key)) [
      | inl is ↦ (
          let here : bytes_eq k.namespace namespace ≡ false = ap (λ (l : Key). bytes_eq l.namespace namespace) (key_is k key is) ∙ (bytes_swap key.namespace namespace ∙ other) in
          rw (is, here) (and_false (is_given namespace)))
      | inr not_here ↦ (rw not_here refl)
    ]

none_elsewhere : (namespace : List ℕ) (key : Key) (xs : List (Stored ReferenceGrant)) → bytes_eq namespace key.namespace ≡ false
    → list_any (λ s. same_key (grant_key s.object) key && is_in_namespace namespace (grant_key s.object)) xs ≡ false
none_elsewhere namespace key xs other =
    any_agree (λ s. same_key (grant_key s.object) key && is_in_namespace namespace (grant_key s.object)) (λ s. false) (λ s. elsewhere namespace key (grant_key s.object) other) xs ∙ any_none xs

module _ (controller : List ℕ) (w : World) (key : Key) (next : Option ReferenceGrant) (at : ℤ) (changes : ℕ) where
  abbrev pub after : World
  after = record w { grants = with_next grant_key key next at w.grants; changes = changes }

  module _ (named : HasKey grant_key key next) (table : IsTableFor grant_key key w.grants) where
    same_grants : (namespace : List ℕ) → bytes_eq namespace key.namespace ≡ false → grants_in after namespace ≡ grants_in w namespace
    same_grants namespace other =
        filter_table grant_key (λ g. is_in_namespace namespace (grant_key g)) key next at w.grants named table
        (none_elsewhere namespace key w.grants other) (none_elsewhere namespace key after.grants other)

    same_permitted : (namespace : List ℕ) (b : BackendRef) → (leaves namespace b && bytes_eq b.namespace key.namespace) ≡ false → is_permitted after namespace b ≡ is_permitted w namespace b
    same_permitted namespace b other =
        elim (known (bytes_eq b.namespace namespace)) [
          | inl is ↦ (rw is refl)
          | inr leaves_it ↦ (
              ap (λ grants. bytes_eq b.namespace namespace || granted (objects_of grants) namespace (backend_key b))
              (same_grants b.namespace (not_right (leaves namespace b) (bytes_eq b.namespace key.namespace) (ap not leaves_it) other)))
        ]

    same_state : (namespace : List ℕ) (b : BackendRef) → (leaves namespace b && bytes_eq b.namespace key.namespace) ≡ false → backend_state_in after namespace b ≡ backend_state_in w namespace b
    unfolding backend_state_in
    same_state namespace b other =
        ap (λ permitted. backend_state_of b permitted (option_map (λ s. s.object) (service_at w (backend_key b))) (objects_of (slices_in w b.namespace))) (same_permitted namespace b other)

    same : (r : HttpRoute) → refers_into key.namespace r ≡ false → IsSameRoute controller w after r
    unfolding is_managed
    same r none =
        same_route controller w after r (all_are (SameParent controller w after r) (λ p. refl) r.parent_refs) refl
        (all_by (λ b. (leaves r.meta.key.namespace b && bytes_eq b.namespace key.namespace) ≡ false) (SameState controller w after r) (same_state r.meta.key.namespace) (backend_refs_of r)
        (each_false (λ b. leaves r.meta.key.namespace b && bytes_eq b.namespace key.namespace) (backend_refs_of r) none))

    pub routes : (k : Key) → IsRouteUntouched w after kinds.ReferenceGrant key k → RouteStays controller w after k
    routes k untouched =
        route_stays controller w after k refl
        (if_some (λ s. refers_into key.namespace s.object ≡ false) (λ s. IsSameRoute controller w after s.object) (λ s none. same s.object none) (route_at w k)
        (untouched_fails route_key (refers_into key.namespace) k w.routes untouched.earlier))

    -- Gateways are evaluated without it
    pub gateways : (doors : List Door) (k : Key) → GatewayStays doors controller w after k
    unfolding attached_at entries_of is_managed
    gateways doors k =
        gateway_stays doors controller w after k refl refl
        (some_is (λ s. AreCounted doors controller w after k) (λ s place. refl) (gateway_at w k))
