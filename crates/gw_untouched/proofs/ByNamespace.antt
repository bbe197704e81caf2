-- What a Namespace doesn't touch.
use Rattle.std.proofs.Common.{◌≡◌, ◌∙◌, ℕ, ℤ, true, false, ◌&&◌, List, [], Option, refl, sym, ap, subst, inl, inr}
use Rattle.std.specs.Option.{option_map_or}
use Rattle.std.specs.Str.{bytes_eq}
use Rattle.std.specs.List.{list_any}
use Rattle.gw_text.specs.declared.kind.Kind.TheVariants as kinds
use Rattle.gw_text.specs.model.Doors.{Door}
use Rattle.gw_text.specs.model.Names.{Key, cluster_key, same_key}
use Rattle.gw_text.specs.model.Namespaces.{Namespace, with_own_name}
use Rattle.gw_text.specs.model.References.{backend_refs_of, backend_state_in}
use Rattle.gw_text.specs.model.Routes.{HttpRoute}
use Rattle.gw_text.specs.model.Statuses.{is_managed, entries_of, is_attached}
use Rattle.gw_text.specs.model.World.{World, namespace_key, namespace_labels, route_at, route_key, gateway_at, gateway_key}
use Rattle.gw_store.proofs.Digests.{known}
use Rattle.gw_deps.proofs.Choices.{and_false}
use Rattle.gw_deps.proofs.Replacing.{key_is}
use Rattle.gw_deps.specs.Indexes.{HasKey, with_next}
use Rattle.gw_deps.specs.Touching.{is_in, is_under, touches_gateway}
use Rattle.gw_untouched.specs.Untouched.{IsRouteUntouched, IsSameRoute, IsTableFor, RouteStays, GatewayStays, IsGatewayUntouched}
use Rattle.gw_untouched.proofs.Attached.{AreCounted, gateway_stays, not_attached, same_attached, same_count}
use Rattle.gw_untouched.proofs.Evaluated.{SameParent, SameState, same_route}
use Rattle.gw_untouched.proofs.Founds.{all_are, if_some, other_found, route_stays, untouched_fails, all_by, each_false, found_key, if_some_two}
use Rattle.gw_untouched.proofs.Tables.{not_right}

module _ (controller : List ℕ) (w : World) (key : Key) (next : Option Namespace) (at : ℤ) (changes : ℕ) where
  abbrev pub after : World
  after = record w { namespaces = with_next namespace_key key next at w.namespaces; changes = changes }

  module _ (named : HasKey namespace_key key next) (table : IsTableFor namespace_key key w.namespaces) where
    same_labels : (namespace : List ℕ) → bytes_eq namespace key.name ≡ false → namespace_labels after namespace ≡ namespace_labels w namespace
    same_labels namespace other =
        let apart : same_key (cluster_key namespace) key ≡ false = rw other (and_false (bytes_eq [] key.namespace)) in
        ap (λ o. option_map_or (λ s. s.object.labels) o (with_own_name namespace []))
        (other_found namespace_key (cluster_key namespace) key next at w.namespaces named table apart)

    same : (r : HttpRoute) → is_in key.name r ≡ false → IsSameRoute controller w after r
    unfolding is_managed backend_state_in
    same r other =
        same_route controller w after r (all_are (SameParent controller w after r) (λ p. refl) r.parent_refs)
        (same_labels r.meta.key.namespace other) (all_are (SameState controller w after r) (λ b. refl) (backend_refs_of r))

    pub routes : (k : Key) → IsRouteUntouched w after kinds.Namespace key k → RouteStays controller w after k
    routes k untouched =
        route_stays controller w after k refl
        (if_some (λ s. is_in key.name s.object ≡ false) (λ s. IsSameRoute controller w after s.object) (λ s other. same s.object other) (route_at w k)
        (untouched_fails route_key (is_in key.name) k w.routes untouched.earlier))

    -- a Route outside of the namespace is attached as before, and one that doesn't name the Gateway isn't attached there
    same_one : (k : Key) (place : ℕ) (r : HttpRoute) → (is_in key.name r && is_under k r) ≡ false → is_attached k place (entries_of controller after r) ≡ is_attached k place (entries_of controller w r)
    unfolding is_managed
    same_one k place r other =
        elim (known (is_in key.name r)) [
          | inl is ↦ (
              let apart = not_right (is_in key.name r) (is_under k r) is other in
              not_attached controller k place after r apart ∙ sym (not_attached controller k place w r apart))
          | inr elsewhere ↦ (same_attached controller k place w after refl r (same_labels r.meta.key.namespace elsewhere))
        ]

    same_counts : (doors : List Door) (k g : Key) → g ≡ k → list_any (λ s. is_in key.name s.object && is_under g s.object) w.routes ≡ false → AreCounted doors controller w after k
    unfolding is_managed
    same_counts doors k g is none place =
        same_count controller k place w after refl refl
        (all_by (λ s. (is_in key.name s.object && is_under k s.object) ≡ false) (λ s. is_attached k place (entries_of controller after s.object) ≡ is_attached k place (entries_of controller w s.object))
        (λ s. same_one k place s.object) w.routes
        (each_false (λ s. is_in key.name s.object && is_under k s.object) w.routes (subst (λ l. list_any (λ s. is_in key.name s.object && is_under l s.object) w.routes ≡ false) is none)))

    pub gateways : (doors : List Door) (k : Key) → IsGatewayUntouched w after kinds.Namespace key k → GatewayStays doors controller w after k
    unfolding is_managed
    gateways doors k untouched =
        gateway_stays doors controller w after k refl refl
        (if_some_two (λ s. touches_gateway w kinds.Namespace key s.object ≡ false) (λ s. same_key (gateway_key s.object) k ≡ true) (λ s. AreCounted doors controller w after k)
        (λ s none named_so. same_counts doors k (gateway_key s.object) (key_is (gateway_key s.object) k named_so) none) (gateway_at w k)
        (untouched_fails gateway_key (touches_gateway w kinds.Namespace key) k w.gateways untouched.earlier) (found_key gateway_key k w.gateways))
