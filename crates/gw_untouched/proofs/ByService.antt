-- What a Service doesn't touch.
use Rattle.std.proofs.Common.{◌≡◌, ℕ, ℤ, false, ◌&&◌, List, Option, option_map, refl, ap, inl, inr}
use Rattle.gw_text.specs.declared.kind.Kind.TheVariants as kinds
use Rattle.gw_text.specs.model.Doors.{Door}
use Rattle.gw_text.specs.model.Names.{Key, same_key}
use Rattle.gw_text.specs.model.References.{backend_refs_of, backend_state_in, backend_state_of, is_permitted}
use Rattle.gw_text.specs.model.Routes.{BackendRef, HttpRoute, backend_key}
use Rattle.gw_text.specs.model.Services.{Service}
use Rattle.gw_text.specs.model.Statuses.{entries_of, is_managed, attached_at}
use Rattle.gw_text.specs.model.Stored.{objects_of}
use Rattle.gw_text.specs.model.World.{World, route_at, route_key, service_key, slices_in, gateway_at}
use Rattle.gw_store.proofs.Digests.{known}
use Rattle.gw_deps.specs.Edges.{names_service}
use Rattle.gw_deps.specs.Indexes.{HasKey, with_next}
use Rattle.gw_deps.specs.Touching.{refers_to}
use Rattle.gw_untouched.specs.Untouched.{IsRouteUntouched, IsSameRoute, IsTableFor, RouteStays, GatewayStays}
use Rattle.gw_untouched.proofs.Attached.{AreCounted, gateway_stays}
use Rattle.gw_untouched.proofs.Evaluated.{SameParent, SameState, same_route}
use Rattle.gw_untouched.proofs.Founds.{all_are, all_by, each_false, if_some, other_found, route_stays, untouched_fails, some_is}
use Rattle.gw_untouched.proofs.Tables.{not_right}

module _ (controller : List ℕ) (w : World) (key : Key) (next : Option Service) (at : ℤ) (changes : ℕ) where
  abbrev pub after : World
  after = record w { services = with_next service_key key next at w.services; changes = changes }

  module _ (named : HasKey service_key key next) (table : IsTableFor service_key key w.services) where
    same_state : (namespace : List ℕ) (b : BackendRef) → (names_service b && same_key (backend_key b) key) ≡ false → backend_state_in after namespace b ≡ backend_state_in w namespace b
    unfolding backend_state_in backend_state_of
    same_state namespace b other =
        elim (known (names_service b)) [
          | inl is ↦ (
              ap (λ o. backend_state_of b (is_permitted w namespace b) (option_map (λ s. s.object) o) (objects_of (slices_in w b.namespace)))
              (other_found service_key (backend_key b) key next at w.services named table (not_right (names_service b) (same_key (backend_key b) key) is other)))
          | inr none ↦ (rw none refl)
        ]

    same : (r : HttpRoute) → refers_to key r ≡ false → IsSameRoute controller w after r
    unfolding is_managed
    same r none =
        same_route controller w after r (all_are (SameParent controller w after r) (λ p. refl) r.parent_refs) refl
        (all_by (λ b. (names_service b && same_key (backend_key b) key) ≡ false) (SameState controller w after r) (same_state r.meta.key.namespace) (backend_refs_of r)
        (each_false (λ b. names_service b && same_key (backend_key b) key) (backend_refs_of r) none))

    pub routes : (k : Key) → IsRouteUntouched w after kinds.Service key k → RouteStays controller w after k
    routes k untouched =
        route_stays controller w after k refl
        (if_some (λ s. refers_to key s.object ≡ false) (λ s. IsSameRoute controller w after s.object) (λ s none. same s.object none) (route_at w k)
        (untouched_fails route_key (refers_to key) k w.routes untouched.earlier))

    -- Gateways are evaluated without it
    pub gateways : (doors : List Door) (k : Key) → GatewayStays doors controller w after k
    unfolding attached_at entries_of is_managed
    gateways doors k =
        gateway_stays doors controller w after k refl refl
        (some_is (λ s. AreCounted doors controller w after k) (λ s place. refl) (gateway_at w k))
