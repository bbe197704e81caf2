-- What an HTTPRoute doesn't touch.
use Rattle.std.proofs.Common.{◌≡◌, ◌∙◌, ℕ, ℤ, Bool, true, false, ◌&&◌, List, Option, refl, sym, subst, inl, inr}
use Rattle.std.specs.List.{list_any}
use Rattle.gw_text.specs.declared.kind.Kind.TheVariants as kinds
use Rattle.gw_text.specs.model.Doors.{Door}
use Rattle.gw_text.specs.model.Names.{Key, same_key}
use Rattle.gw_text.specs.model.References.{backend_refs_of, backend_state_in}
use Rattle.gw_text.specs.model.Routes.{HttpRoute}
use Rattle.gw_text.specs.model.Statuses.{is_managed, attached_at, entries_of, is_attached}
use Rattle.gw_text.specs.model.Stored.{Stored}
use Rattle.gw_text.specs.model.World.{World, route_at, route_key, gateway_at, gateway_key}
use Rattle.gw_store.proofs.Digests.{known}
use Rattle.gw_deps.proofs.Depending.{keys_of}
use Rattle.gw_deps.proofs.Replacing.{key_is}
use Rattle.gw_deps.specs.Indexes.{HasKey, with_next}
use Rattle.gw_deps.specs.Touching.{is_under, touches_gateway}
use Rattle.gw_untouched.specs.Untouched.{IsRouteUntouched, IsSameRoute, IsTableFor, RouteStays, GatewayStays, IsGatewayUntouched}
use Rattle.gw_untouched.proofs.Attached.{AreCounted, gateway_stays, not_attached}
use Rattle.gw_untouched.proofs.Evaluated.{SameParent, SameState, same_route}
use Rattle.gw_untouched.proofs.Founds.{all_are, route_stays, some_is, found_key, if_some_two, none_by, untouched_fails}
use Rattle.gw_untouched.proofs.Tables.{found_table, count_same, filter_table, not_right}

module _ (controller : List ℕ) (w : World) (key : Key) (next : Option HttpRoute) (at : ℤ) (changes : ℕ) where
  abbrev pub after : World
  after = record w { routes = with_next route_key key next at w.routes; changes = changes }

  -- Routes aren't evaluated from other Routes
  pub same : (r : HttpRoute) → IsSameRoute controller w after r
  unfolding is_managed backend_state_in
  same r =
      same_route controller w after r (all_are (SameParent controller w after r) (λ p. refl) r.parent_refs) refl
      (all_are (SameState controller w after r) (λ b. refl) (backend_refs_of r))

  module _ (named : HasKey route_key key next) (table : IsTableFor route_key key w.routes) where
    pub routes : (k : Key) → IsRouteUntouched w after kinds.HttpRoute key k → RouteStays controller w after k
    routes k untouched =
        let own : HttpRoute → Bool = λ r. same_key (route_key r) key in
        route_stays controller w after k
        (found_table route_key k key next at w.routes named table
        (sym (keys_of route_key own k w.routes) ∙ untouched.earlier) (sym (keys_of route_key own k after.routes) ∙ untouched.later))
        (some_is (λ s. IsSameRoute controller w after s.object) (λ s. same s.object) (route_at w k))

    -- a Route of the key that doesn't name the Gateway isn't counted there
    none_counted : (k : Key) (place : ℕ) (xs : List (Stored HttpRoute)) → list_any (λ s. same_key (route_key s.object) key && is_under k s.object) xs ≡ false
        → list_any (λ s. same_key (route_key s.object) key && is_attached k place (entries_of controller w s.object)) xs ≡ false
    none_counted k place xs none =
        none_by (λ s. same_key (route_key s.object) key && is_under k s.object) (λ s. same_key (route_key s.object) key && is_attached k place (entries_of controller w s.object)) xs
        (λ s other. elim (known (same_key (route_key s.object) key)) [
          | inl is ↦ (rw is (not_attached controller k place w s.object (not_right (same_key (route_key s.object) key) (is_under k s.object) is other)))
          | inr apart ↦ (rw apart refl)
        ]) none

    same_counts : (doors : List Door) (k g : Key) → g ≡ k → list_any (λ s. same_key (route_key s.object) key && is_under g s.object) w.routes ≡ false
        → list_any (λ s. same_key (route_key s.object) key && is_under g s.object) after.routes ≡ false → AreCounted doors controller w after k
    unfolding attached_at entries_of is_managed
    same_counts doors k g is earlier later place =
        let P : HttpRoute → Bool = λ r. is_attached k place (entries_of controller w r) in
        count_same P w.routes after.routes
        (filter_table route_key P key next at w.routes named table
        (none_counted k place w.routes (subst (λ l. list_any (λ s. same_key (route_key s.object) key && is_under l s.object) w.routes ≡ false) is earlier))
        (none_counted k place after.routes (subst (λ l. list_any (λ s. same_key (route_key s.object) key && is_under l s.object) after.routes ≡ false) is later)))

    pub gateways : (doors : List Door) (k : Key) → IsGatewayUntouched w after kinds.HttpRoute key k → GatewayStays doors controller w after k
    unfolding is_managed
    gateways doors k untouched =
        gateway_stays doors controller w after k refl refl
        (if_some_two (λ s. touches_gateway w kinds.HttpRoute key s.object ≡ false) (λ s. (touches_gateway after kinds.HttpRoute key s.object ≡ false) × (same_key (gateway_key s.object) k ≡ true)) (λ s. AreCounted doors controller w after k)
        (λ s earlier rest. same_counts doors k (gateway_key s.object) (key_is (gateway_key s.object) k rest.1) earlier rest.0) (gateway_at w k)
        (untouched_fails gateway_key (touches_gateway w kinds.HttpRoute key) k w.gateways untouched.earlier)
        (if_some_two (λ s. touches_gateway after kinds.HttpRoute key s.object ≡ false) (λ s. same_key (gateway_key s.object) k ≡ true) (λ s. (touches_gateway after kinds.HttpRoute key s.object ≡ false) × (same_key (gateway_key s.object) k ≡ true))
        (λ s later named_so. (later, named_so)) (gateway_at w k)
        (untouched_fails gateway_key (touches_gateway after kinds.HttpRoute key) k w.gateways untouched.later) (found_key gateway_key k w.gateways)))
