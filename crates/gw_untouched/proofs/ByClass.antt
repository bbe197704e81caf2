-- What a GatewayClass doesn't touch.
use Rattle.std.proofs.Common.{◌≡◌, ◌∙◌, ℕ, ℤ, Bool, false, ◌&&◌, if◌then◌else◌, List, [], Option, None, Some, IfSome, refl, sym, ap, inl, inr}
use Rattle.std.specs.List.{list_any}
use Rattle.std.specs.Option.{option_map_or}
use Rattle.std.specs.Str.{bytes_eq}
use Rattle.gw_text.specs.declared.kind.Kind.TheVariants as kinds
use Rattle.gw_text.specs.model.Chains.{◌>>=◌}
use Rattle.gw_text.specs.model.Doors.{Door}
use Rattle.gw_text.specs.model.GatewayClasses.{GatewayClass}
use Rattle.gw_text.specs.model.Gateways.{Gateway}
use Rattle.gw_text.specs.model.Names.{Key, cluster_key, same_key}
use Rattle.gw_text.specs.model.References.{backend_refs_of, backend_state_in}
use Rattle.gw_text.specs.model.Routes.{HttpRoute, ParentRef, names_gateway, parent_key}
use Rattle.gw_text.specs.model.Statuses.{is_managed, managed_parent, manages, where_managed}
use Rattle.gw_text.specs.model.Stored.{Stored}
use Rattle.gw_text.specs.model.World.{World, class_key, gateway_at, gateway_key, route_at, route_key}
use Rattle.gw_rows.specs.model.DoorRows.{managed_at}
use Rattle.gw_store.proofs.Digests.{known}
use Rattle.gw_deps.proofs.Choices.{and_false, any_agree, any_and, any_any}
use Rattle.gw_deps.proofs.Replacing.{same_swap}
use Rattle.gw_deps.specs.Indexes.{HasKey, with_next}
use Rattle.gw_deps.specs.Touching.{is_of_class, is_under_class}
use Rattle.gw_untouched.specs.Untouched.{IsRouteUntouched, IsSameRoute, IsTableFor, RouteStays, GatewayStays, IsGatewayUntouched}
use Rattle.gw_untouched.proofs.Attached.{AreCounted, gateway_stays, same_labels_count}
use Rattle.gw_untouched.proofs.Evaluated.{SameParent, SameState, same_route}
use Rattle.gw_untouched.proofs.Founds.{all_are, all_by, each_false, found_fails, if_some, other_found, route_stays, untouched_fails, some_is}

-- a parentRef names the Gateway, which is of the class
abbrev names_of_class : List ℕ → ParentRef → Stored Gateway → Bool
names_of_class class p s = is_of_class class s.object && (names_gateway p && same_key (parent_key p) (gateway_key s.object))

by_parent : (class : List ℕ) (parents : List ParentRef) (xs : List (Stored Gateway))
    → list_any (λ s. is_of_class class s.object && list_any (λ p. names_gateway p && same_key (parent_key p) (gateway_key s.object)) parents) xs
    ≡ list_any (λ p. list_any (names_of_class class p) xs) parents
by_parent class parents xs =
    any_agree (λ s. is_of_class class s.object && list_any (λ p. names_gateway p && same_key (parent_key p) (gateway_key s.object)) parents) (λ s. list_any (λ p. names_of_class class p s) parents)
    (λ s. any_and (is_of_class class s.object) (λ p. names_gateway p && same_key (parent_key p) (gateway_key s.object)) parents) xs
    ∙ any_any (λ s p. names_of_class class p s) xs parents

module _ (controller : List ℕ) (w : World) (key : Key) (next : Option GatewayClass) (at : ℤ) (changes : ℕ) where
  abbrev pub after : World
  after = record w { classes = with_next class_key key next at w.classes; changes = changes }

  module _ (named : HasKey class_key key next) (table : IsTableFor class_key key w.classes) where
    same_managed : (g : Gateway) → is_of_class key.name g ≡ false → is_managed controller after g ≡ is_managed controller w g
    unfolding is_managed
    same_managed g other =
        let apart : same_key (cluster_key g.gateway_class_name) key ≡ false = rw other (and_false (bytes_eq [] key.namespace)) in
        ap (λ o. option_map_or (λ s. manages controller s.object) o false)
        (other_found class_key (cluster_key g.gateway_class_name) key next at w.classes named table apart)

    pub same_where : (o : Option (Stored Gateway)) → IfSome o (λ s. is_of_class key.name s.object ≡ false) → (o >>= where_managed controller after) ≡ (o >>= where_managed controller w)
    same_where None other = refl
    same_where (Some s) other = ap (λ b. if b then Some s.object else None) (same_managed s.object other)

    same_parent : (p : ParentRef) → list_any (names_of_class key.name p) w.gateways ≡ false → managed_parent controller after p ≡ managed_parent controller w p
    same_parent p none =
        elim (known (names_gateway p)) [
          | inl is ↦ (
              let other : list_any (λ s. is_of_class key.name s.object && same_key (gateway_key s.object) (parent_key p)) w.gateways ≡ false =
              sym (any_agree (names_of_class key.name p) (λ s. is_of_class key.name s.object && same_key (gateway_key s.object) (parent_key p))
              (λ s. ap (λ b. is_of_class key.name s.object && b) (ap (λ n. n && same_key (parent_key p) (gateway_key s.object)) is ∙ same_swap (parent_key p) (gateway_key s.object))) w.gateways) ∙ none in
              rw is (same_where (gateway_at w (parent_key p)) (found_fails gateway_key (is_of_class key.name) (parent_key p) w.gateways other)))
          | inr no_gateway ↦ (rw no_gateway refl)
        ]

    same : (r : HttpRoute) → is_under_class w key.name r ≡ false → IsSameRoute controller w after r
    unfolding backend_state_in
    same r none =
        same_route controller w after r
        (all_by (λ p. list_any (names_of_class key.name p) w.gateways ≡ false) (SameParent controller w after r) same_parent r.parent_refs
        (each_false (λ p. list_any (names_of_class key.name p) w.gateways) r.parent_refs (sym (by_parent key.name r.parent_refs w.gateways) ∙ none)))
        refl (all_are (SameState controller w after r) (λ b. refl) (backend_refs_of r))

    pub routes : (k : Key) → IsRouteUntouched w after kinds.GatewayClass key k → RouteStays controller w after k
    routes k untouched =
        route_stays controller w after k refl
        (if_some (λ s. is_under_class w key.name s.object ≡ false) (λ s. IsSameRoute controller w after s.object) (λ s none. same s.object none) (route_at w k)
        (untouched_fails route_key (is_under_class w key.name) k w.routes untouched.earlier))

    pub gateways : (doors : List Door) (k : Key) → IsGatewayUntouched w after kinds.GatewayClass key k → GatewayStays doors controller w after k
    gateways doors k untouched =
        let managed : managed_at controller after k ≡ managed_at controller w k =
        same_where (gateway_at w k) (untouched_fails gateway_key (is_of_class key.name) k w.gateways untouched.earlier) in
        gateway_stays doors controller w after k refl managed
        (some_is (λ s. AreCounted doors controller w after k) (λ s place. same_labels_count controller k place w after managed refl (λ namespace. refl)) (gateway_at w k))
