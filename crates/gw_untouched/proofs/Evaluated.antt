-- What is evaluated of a Route is the same where its parents, the labels of its namespace and its backends are.
use Rattle.std.proofs.Common.{◌≡◌, ◌∙◌, ℕ, List, [], ◌∷◌, ◌++◌, map, flat_map, Option, None, Some, option_map, unwrap_or, refl, ap, ap₂}
use Rattle.std.specs.List.{AllByRecursion, filter_map}
use Rattle.gw_text.specs.model.Attachment.{attachment_of}
use Rattle.gw_text.specs.model.Plans.{backend_of, plan_of, plans_of}
use Rattle.gw_text.specs.model.References.{backend_refs_of, backend_state_in, first_of, resolved_refs_of, resolved_unless, unresolved}
use Rattle.gw_text.specs.model.Routes.{BackendRef, HttpRoute, ParentRef, Rule, backend_key}
use Rattle.gw_text.specs.model.Statuses.{entries_of, entry_of, managed_parent, parent_status_of, parent_statuses_of}
use Rattle.gw_text.specs.model.World.{World, namespace_labels}
use Rattle.gw_untouched.specs.Untouched.{IsSameRoute}
use Rattle.gw_untouched.proofs.Founds.{all_by}

all_front : {X : Type 0} (P : X → Type 0) (xs ys : List X) → AllByRecursion P (xs ++ ys) → AllByRecursion P xs
all_front P [] ys all = tt
all_front P (x ∷ xs) ys all = (all.0, all_front P xs ys all.1)

all_rest : {X : Type 0} (P : X → Type 0) (xs ys : List X) → AllByRecursion P (xs ++ ys) → AllByRecursion P ys
all_rest P [] ys all = all
all_rest P (x ∷ xs) ys all = all_rest P xs ys all.1

pub map_all : {X Y : Type 0} (f g : X → Y) (xs : List X) → AllByRecursion (λ x. f x ≡ g x) xs → map f xs ≡ map g xs
map_all f g [] all = refl
map_all f g (x ∷ xs) all = ap₂ (λ a b. a ∷ b) all.0 (map_all f g xs all.1)

given : {X Y : Type 0} (f g : X → Option Y) (x : X) (xs : List X) → (o : Option Y) → g x ≡ o → f x ≡ g x → filter_map f xs ≡ filter_map g xs → filter_map f (x ∷ xs) ≡ filter_map g (x ∷ xs)
given f g x xs None is here rest = rw (here, is) rest
given f g x xs (Some y) is here rest = rw (here, is) (ap (λ t. y ∷ t) rest)

pub filter_map_all : {X Y : Type 0} (f g : X → Option Y) (xs : List X) → AllByRecursion (λ x. f x ≡ g x) xs → filter_map f xs ≡ filter_map g xs
filter_map_all f g [] all = refl
filter_map_all f g (x ∷ xs) all = given f g x xs (g x) refl all.0 (filter_map_all f g xs all.1)

module _ (controller : List ℕ) (w after : World) (r : HttpRoute) where
  abbrev pub SameParent : ParentRef → Type 0
  SameParent p = managed_parent controller after p ≡ managed_parent controller w p

  abbrev pub SameState : BackendRef → Type 0
  SameState b = backend_state_in after r.meta.key.namespace b ≡ backend_state_in w r.meta.key.namespace b

  same_entries : AllByRecursion SameParent r.parent_refs → namespace_labels after r.meta.key.namespace ≡ namespace_labels w r.meta.key.namespace → entries_of controller after r ≡ entries_of controller w r
  unfolding entries_of
  same_entries parents labels =
      let before = namespace_labels w r.meta.key.namespace in
      ap (λ l. filter_map (entry_of controller after l r) r.parent_refs) labels
      ∙ filter_map_all (entry_of controller after before r) (entry_of controller w before r) r.parent_refs
      (all_by SameParent (λ p. entry_of controller after before r p ≡ entry_of controller w before r p)
      (λ p same. ap (λ o. option_map (λ g. record { parent = p; attachment = attachment_of g before r p }) o) same) r.parent_refs parents)

  same_resolved : AllByRecursion SameState (backend_refs_of r) → resolved_refs_of after r ≡ resolved_refs_of w r
  unfolding resolved_refs_of
  same_resolved backends =
      ap (λ reasons. resolved_unless (first_of reasons))
      (filter_map_all (λ b. unresolved (backend_state_in after r.meta.key.namespace b)) (λ b. unresolved (backend_state_in w r.meta.key.namespace b)) (backend_refs_of r)
      (all_by SameState (λ b. unresolved (backend_state_in after r.meta.key.namespace b) ≡ unresolved (backend_state_in w r.meta.key.namespace b)) (λ b same. ap unresolved same) (backend_refs_of r) backends))

  same_backend : (b : BackendRef) → SameState b → backend_of after r.meta.key.namespace b ≡ backend_of w r.meta.key.namespace b
  same_backend b same = ap (λ s. record (backend_of w r.meta.key.namespace b) { state = s }) same

  same_rules : (rules : List Rule) → AllByRecursion SameState (flat_map (λ rule. rule.backend_refs) rules) → map (plan_of after r.meta.key.namespace) rules ≡ map (plan_of w r.meta.key.namespace) rules
  same_rules [] backends = refl
  same_rules (rule ∷ rules) backends =
      let rest = flat_map (λ l. l.backend_refs) rules in
      ap₂ (λ a b. record { filters = rule.filters; backends = a } ∷ b)
      (map_all (backend_of after r.meta.key.namespace) (backend_of w r.meta.key.namespace) rule.backend_refs
      (all_by SameState (λ b. backend_of after r.meta.key.namespace b ≡ backend_of w r.meta.key.namespace b) same_backend rule.backend_refs (all_front SameState rule.backend_refs rest backends)))
      (same_rules rules (all_rest SameState rule.backend_refs rest backends))

  same_statuses : entries_of controller after r ≡ entries_of controller w r → resolved_refs_of after r ≡ resolved_refs_of w r → parent_statuses_of controller after r ≡ parent_statuses_of controller w r
  unfolding parent_statuses_of
  same_statuses entries resolved = ap₂ (λ a b. map (parent_status_of controller a) b) resolved entries

  pub same_route : AllByRecursion SameParent r.parent_refs → namespace_labels after r.meta.key.namespace ≡ namespace_labels w r.meta.key.namespace → AllByRecursion SameState (backend_refs_of r) → IsSameRoute controller w after r
  same_route parents labels backends =
      let entries = same_entries parents labels in
      let statuses = same_statuses entries (same_resolved backends) in
      let plans = same_rules r.rules backends in
      record {
        result =
            ap₂ (λ a b. record { parents = a; places = map (λ e. e.attachment) b; plans = plans_of after r }) statuses entries
            ∙ ap (λ c. record { parents = parent_statuses_of controller w r; places = map (λ e. e.attachment) (entries_of controller w r); plans = c }) plans;
        status = ap (λ a. record { key = r.meta.key; parents = a }) statuses;
        entries = entries;
        plans = plans;
      }
