-- What a Gateway doesn't touch.
use Rattle.std.proofs.Common.{◌≡◌, ◌∙◌, ℕ, ℤ, Bool, false, ◌&&◌, List, Option, Result, refl, sym, ap, inl, inr, if◌then◌else◌, None, Some}
use Rattle.gw_text.specs.declared.kind.Kind.TheVariants as kinds
use Rattle.gw_text.specs.model.Chains.{◌>>=◌}
use Rattle.gw_text.specs.model.Doors.{Door}
use Rattle.gw_text.specs.model.Gateways.{Gateway}
use Rattle.gw_text.specs.model.Names.{Key, same_key}
use Rattle.gw_text.specs.model.References.{backend_refs_of, backend_state_in}
use Rattle.gw_text.specs.model.Routes.{HttpRoute, ParentRef, names_gateway, parent_key}
use Rattle.gw_text.specs.model.Statuses.{is_managed, managed_parent, where_managed}
use Rattle.gw_text.specs.model.World.{World, gateway_key, route_at, route_key, gateway_at}
use Rattle.gw_rows.specs.model.DoorRows.{managed_at}
use Rattle.gw_store.proofs.Digests.{known}
use Rattle.gw_deps.proofs.Depending.{keys_of}
use Rattle.gw_deps.specs.Indexes.{HasKey, with_next}
use Rattle.gw_deps.specs.Touching.{is_under}
use Rattle.gw_untouched.specs.Untouched.{IsRouteUntouched, IsSameRoute, IsTableFor, RouteStays, GatewayStays, IsGatewayUntouched}
use Rattle.gw_untouched.proofs.Attached.{AreCounted, gateway_stays, same_labels_count, same_status}
use Rattle.gw_untouched.proofs.Evaluated.{SameParent, SameState, same_route}
use Rattle.gw_untouched.proofs.Founds.{all_are, all_by, each_false, if_some, other_found, other_found_at, route_stays, untouched_fails, some_is}
use Rattle.gw_untouched.proofs.Tables.{IsPlace, not_right, found_table}

module _ (controller : List ℕ) (w : World) (key : Key) (next : Option Gateway) (at : ℤ) (changes : ℕ) where
  abbrev pub after : World
  after = record w { gateways = with_next gateway_key key next at w.gateways; changes = changes }

  module _ (named : HasKey gateway_key key next) (table : IsTableFor gateway_key key w.gateways) where
    same_parent : (p : ParentRef) → (names_gateway p && same_key (parent_key p) key) ≡ false → managed_parent controller after p ≡ managed_parent controller w p
    unfolding is_managed
    same_parent p other =
        elim (known (names_gateway p)) [
          | inl is ↦ (
              rw is (ap (λ o. o >>= where_managed controller w) (other_found gateway_key (parent_key p) key next at w.gateways named table (not_right (names_gateway p) (same_key (parent_key p) key) is other))))
          | inr none ↦ (rw none refl)
        ]

    same : (r : HttpRoute) → is_under key r ≡ false → IsSameRoute controller w after r
    unfolding backend_state_in
    same r none =
        same_route controller w after r
        (all_by (λ p. (names_gateway p && same_key (parent_key p) key) ≡ false) (SameParent controller w after r) same_parent r.parent_refs
        (each_false (λ p. names_gateway p && same_key (parent_key p) key) r.parent_refs none))
        refl (all_are (SameState controller w after r) (λ b. refl) (backend_refs_of r))

    pub routes : (k : Key) → IsRouteUntouched w after kinds.Gateway key k → RouteStays controller w after k
    routes k untouched =
        route_stays controller w after k refl
        (if_some (λ s. is_under key s.object ≡ false) (λ s. IsSameRoute controller w after s.object) (λ s none. same s.object none) (route_at w k)
        (untouched_fails route_key (is_under key) k w.routes untouched.earlier))

    pub gateways : (doors : List Door) (k : Key) → IsGatewayUntouched w after kinds.Gateway key k → GatewayStays doors controller w after k
    unfolding is_managed
    gateways doors k untouched =
        let own : Gateway → Bool = λ g. same_key (gateway_key g) key in
        let held : gateway_at after k ≡ gateway_at w k =
        found_table gateway_key k key next at w.gateways named table
        (sym (keys_of gateway_key own k w.gateways) ∙ untouched.earlier) (sym (keys_of gateway_key own k after.gateways) ∙ untouched.later) in
        let managed : managed_at controller after k ≡ managed_at controller w k = ap (λ o. o >>= where_managed controller w) held in
        gateway_stays doors controller w after k held managed
        (some_is (λ s. AreCounted doors controller w after k) (λ s place. same_labels_count controller k place w after managed refl (λ namespace. refl)) (gateway_at w k))
