-- How many Routes are attached to the listeners of a Gateway, and what follows for its status.
use Rattle.std.proofs.Common.{◌≡◌, ◌∙◌, ℕ, Bool, true, false, ◌&&◌, ◌||◌, if◌then◌else◌, List, [], ◌∷◌, cond, filter, length, nat_eq, Option, None, Some, IfSome, option_map, refl, sym, ap, ap₂, subst, inl, inr}
use Rattle.std.specs.List.{AllByRecursion, count_by, enumerate_from, filter_map, list_any}
use Rattle.std.specs.Option.{option_map_or}
use Rattle.std.proofs.lemmas.List.Sums.{length-filter}
use Rattle.gw_text.specs.model.Attachment.{attachment_of}
use Rattle.gw_text.specs.model.Chains.{◌>>=◌}
use Rattle.gw_text.specs.model.Doors.{Door}
use Rattle.gw_text.specs.model.Gateways.{Gateway, Listener}
use Rattle.gw_text.specs.model.Listeners.{gateway_state, listener_state}
use Rattle.gw_text.specs.model.Names.{Key, same_key}
use Rattle.gw_text.specs.model.Routes.{HttpRoute, ParentRef, names_gateway, parent_key}
use Rattle.gw_text.specs.model.Statuses.{Entry, attached_at, entries_of, entry_of, gateway_status_of, is_attached, is_managed, listener_statuses_of, managed_parent, where_managed}
use Rattle.gw_text.specs.model.Stored.{Stored, objects_of}
use Rattle.gw_text.specs.model.World.{World, gateway_at, gateway_key, namespace_labels}
use Rattle.gw_rows.specs.model.DoorRows.{managed_at, served_at, served_by}
use Rattle.gw_store.proofs.Digests.{known}
use Rattle.gw_deps.proofs.Choices.{any_agree}
use Rattle.gw_deps.proofs.Replacing.{key_is, same_swap}
use Rattle.gw_deps.specs.Touching.{is_under}
use Rattle.gw_untouched.specs.Untouched.{GatewayStays}
use Rattle.gw_untouched.proofs.Evaluated.{map_all}
use Rattle.gw_untouched.proofs.Founds.{all_are, found_key, none_by}
use Rattle.gw_untouched.proofs.Tables.{not_right}

any_one : {X Y : Type 0} (p : Y → Bool) (f : X → Option Y) (x : X) (xs : List X) (o : Option Y) → f x ≡ o → list_any p (filter_map f xs) ≡ list_any (λ y. option_map_or p (f y) false) xs
    → list_any p (filter_map f (x ∷ xs)) ≡ list_any (λ y. option_map_or p (f y) false) (x ∷ xs)
any_one p f x xs None is rest = rw is rest
any_one p f x xs (Some y) is rest = rw is (ap (λ b. p y || b) rest)

any_given : {X Y : Type 0} (p : Y → Bool) (f : X → Option Y) (xs : List X) → list_any p (filter_map f xs) ≡ list_any (λ x. option_map_or p (f x) false) xs
any_given p f [] = refl
any_given p f (x ∷ xs) = any_one p f x xs (f x) refl (any_given p f xs)

filter_all : {X : Type 0} (p q : X → Bool) (xs : List X) → AllByRecursion (λ x. p x ≡ q x) xs → filter p xs ≡ filter q xs
filter_all p q [] all = refl
filter_all p q (x ∷ xs) all = ap₂ (λ b t. cond b (x ∷ t) t) all.0 (filter_all p q xs all.1)

all_objects : {T : Type 0} (P : T → Type 0) (xs : List (Stored T)) → AllByRecursion (λ s. P s.object) xs → AllByRecursion P (objects_of xs)
all_objects P [] all = tt
all_objects P (x ∷ xs) all = (all.0, all_objects P xs all.1)

count_all : {T : Type 0} (p q : T → Bool) (xs : List (Stored T)) → AllByRecursion (λ s. p s.object ≡ q s.object) xs → count_by p (objects_of xs) ≡ count_by q (objects_of xs)
count_all p q xs all =
    sym (length-filter p (objects_of xs))
    ∙ (ap (λ t. length t) (filter_all p q (objects_of xs) (all_objects (λ x. p x ≡ q x) xs all)) ∙ length-filter q (objects_of xs))

module _ (controller : List ℕ) (k : Key) (place : ℕ) where
  -- the entry attaches its Route to the listener
  abbrev attaches : Entry → Bool
  attaches e = same_key k (parent_key e.parent) && list_any (nat_eq place) e.attachment.listeners

  other_entry : (labels : List (List ℕ × List ℕ)) (r : HttpRoute) (p : ParentRef) (o : Option Gateway) → same_key k (parent_key p) ≡ false
      → option_map_or attaches (option_map (λ g. record { parent = p; attachment = attachment_of g labels r p }) o) false ≡ false
  other_entry labels r p None other = refl
  other_entry labels r p (Some g) other = rw other refl

  -- a Route that doesn't name the Gateway isn't attached there
  pub not_attached : (v : World) (r : HttpRoute) → is_under k r ≡ false → is_attached k place (entries_of controller v r) ≡ false
  unfolding entries_of
  not_attached v r none =
      let labels = namespace_labels v r.meta.key.namespace in
      any_given attaches (entry_of controller v labels r) r.parent_refs
      ∙ none_by (λ p. names_gateway p && same_key (parent_key p) k) (λ p. option_map_or attaches (entry_of controller v labels r p) false) r.parent_refs
      (λ p other. elim (known (names_gateway p)) [
        | inl is ↦ (other_entry labels r p (managed_parent controller v p) (same_swap k (parent_key p) ∙ not_right (names_gateway p) (same_key (parent_key p) k) is other))
        | inr no_gateway ↦ (rw no_gateway refl)
      ]) none

  module _ (w after : World) (managed : managed_at controller after k ≡ managed_at controller w k) where
    same_entry : (labels : List (List ℕ × List ℕ)) (r : HttpRoute) (p : ParentRef) → option_map_or attaches (entry_of controller after labels r p) false ≡ option_map_or attaches (entry_of controller w labels r p) false
    same_entry labels r p =
        elim (known (same_key k (parent_key p))) [
          | inl is ↦ (
              let same : managed_at controller after (parent_key p) ≡ managed_at controller w (parent_key p) =
              subst (λ l. managed_at controller after l ≡ managed_at controller w l) (key_is k (parent_key p) is) managed in
              ap (λ o. option_map_or attaches (option_map (λ g. record { parent = p; attachment = attachment_of g labels r p }) (if names_gateway p then o else None)) false) same)
          | inr other ↦ (other_entry labels r p (managed_parent controller after p) other ∙ sym (other_entry labels r p (managed_parent controller w p) other))
        ]

    -- a Route is attached as before where the labels of its namespace are as before
    pub same_attached : (r : HttpRoute) → namespace_labels after r.meta.key.namespace ≡ namespace_labels w r.meta.key.namespace → is_attached k place (entries_of controller after r) ≡ is_attached k place (entries_of controller w r)
    unfolding entries_of
    same_attached r same =
        let labels = namespace_labels w r.meta.key.namespace in
        ap (λ l. list_any attaches (filter_map (entry_of controller after l r) r.parent_refs)) same
        ∙ (any_given attaches (entry_of controller after labels r) r.parent_refs
        ∙ (any_agree (λ p. option_map_or attaches (entry_of controller after labels r p) false) (λ p. option_map_or attaches (entry_of controller w labels r p) false) (same_entry labels r) r.parent_refs
        ∙ sym (any_given attaches (entry_of controller w labels r) r.parent_refs)))

    -- as many Routes are attached, of the same ones
    pub same_count : after.routes ≡ w.routes → AllByRecursion (λ s. is_attached k place (entries_of controller after s.object) ≡ is_attached k place (entries_of controller w s.object)) w.routes
        → attached_at controller after k place ≡ attached_at controller w k place
    unfolding attached_at
    same_count routes all =
        ap (λ t. count_by (λ r. is_attached k place (entries_of controller after r)) (objects_of t)) routes
        ∙ count_all (λ r. is_attached k place (entries_of controller after r)) (λ r. is_attached k place (entries_of controller w r)) w.routes all

    pub same_labels_count : after.routes ≡ w.routes → ((namespace : List ℕ) → namespace_labels after namespace ≡ namespace_labels w namespace) → attached_at controller after k place ≡ attached_at controller w k place
    same_labels_count routes labels =
        same_count routes (all_are (λ s. is_attached k place (entries_of controller after s.object) ≡ is_attached k place (entries_of controller w s.object)) (λ s. same_attached s.object (labels s.object.meta.key.namespace)) w.routes)

module _ (doors : List Door) (controller : List ℕ) (w after : World) (k : Key) where
  abbrev pub AreCounted : Type 0
  AreCounted = (place : ℕ) → attached_at controller after k place ≡ attached_at controller w k place

  pub same_status : (g : Gateway) → g.meta.key ≡ k → AreCounted → gateway_status_of doors controller after g ≡ gateway_status_of doors controller w g
  unfolding gateway_status_of listener_statuses_of
  same_status g is counted =
      ap (λ l. record { key = g.meta.key; state = gateway_state doors g; listeners = l })
      (map_all (λ (l : ℕ × Listener). record { name = l.1.name; state = listener_state doors g l.0 l.1; attached = attached_at controller after g.meta.key l.0 })
      (λ l. record { name = l.1.name; state = listener_state doors g l.0 l.1; attached = attached_at controller w g.meta.key l.0 }) (enumerate_from 0 g.listeners)
      (all_are (λ l. record { name = l.1.name; state = listener_state doors g l.0 l.1; attached = attached_at controller after g.meta.key l.0 } ≡ record { name = l.1.name; state = listener_state doors g l.0 l.1; attached = attached_at controller w g.meta.key l.0 })
      (λ l. ap (λ n. record { name = l.1.name; state = listener_state doors g l.0 l.1; attached = n }) (rw is (counted l.0))) (enumerate_from 0 g.listeners)))

  same_found : (o : Option (Stored Gateway)) → IfSome o (λ s. AreCounted) → IfSome o (λ s. same_key (gateway_key s.object) k ≡ true)
      → option_map (gateway_status_of doors controller after) (o >>= where_managed controller w) ≡ option_map (gateway_status_of doors controller w) (o >>= where_managed controller w)
  same_found None counted named = refl
  same_found (Some s) counted named =
      elim (known (is_managed controller w s.object)) [
        | inl is ↦ (rw is (ap Some (same_status s.object (key_is (gateway_key s.object) k named) counted)))
        | inr other ↦ (rw other refl)
      ]

  same_served : managed_at controller after k ≡ managed_at controller w k → (door : Door) → door.gateway ≡ k → served_at doors controller after door ≡ served_at doors controller w door
  unfolding served_at
  same_served managed door is =
      ap (λ o. option_map_or (served_by doors door) o []) (subst (λ l. managed_at controller after l ≡ managed_at controller w l) (sym is) managed)

  pub gateway_stays : gateway_at after k ≡ gateway_at w k → managed_at controller after k ≡ managed_at controller w k → IfSome (gateway_at w k) (λ s. AreCounted) → GatewayStays doors controller w after k
  gateway_stays held managed counted = record {
    held = held;
    managed = managed;
    status = ap (λ o. option_map (gateway_status_of doors controller after) o) managed ∙ same_found (gateway_at w k) counted (found_key gateway_key k w.gateways);
    served = same_served managed;
  }
