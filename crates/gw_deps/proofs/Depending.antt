-- Who depends on an object, by the edges of a world and by its objects.
use Rattle.std.proofs.Common.{◌≡◌, ◌∙◌, Bool, true, false, ◌&&◌, ◌||◌, List, [], ◌∷◌, map, filter, is_some, refl, sym, ap, ap₂, inl, inr}
use Rattle.std.specs.List.{list_any}
use Rattle.gw_text.specs.model.Gateways.{Gateway}
use Rattle.gw_text.specs.model.Names.{Key, cluster_key, same_key}
use Rattle.gw_text.specs.model.References.{backend_refs_of}
use Rattle.gw_text.specs.model.Routes.{HttpRoute, ParentRef, names_gateway, parent_key, backend_key}
use Rattle.gw_text.specs.model.Stored.{Stored, stored_at}
use Rattle.gw_text.specs.model.World.{World, gateway_key, route_key, gateway_at}
use Rattle.gw_store.proofs.Digests.{known}
use Rattle.gw_deps.specs.Edges.{Edge, edge_to, has_edge, has_key, same_edge, class_edges, parent_edges, namespace_edges, service_edges, grant_edges, leaves, names_service, of_subject}
use Rattle.gw_deps.specs.Indexes.{edges_by}
use Rattle.gw_deps.specs.Touching.{has_held_parent, is_held_parent, is_under, refers_to}
use Rattle.gw_deps.proofs.Choices.{and_assoc, and_swap, and_false, any_agree, any_and, any_and_right, any_any, any_filter, any_flat, any_map, crossed, or_false, or_true}
use Rattle.gw_deps.proofs.Replacing.{key_is, same_self, same_swap, same_through}

-- the edges to an object that some items name
pub named : {X : Type 0} (test : X → Bool) (subject : X → Key) (own k s : Key) (xs : List X)
    → has_edge (edge_to k s) (map (λ x. edge_to own (subject x)) (filter test xs)) ≡ (list_any (λ x. test x && same_key (subject x) s) xs && same_key own k)
named test subject own k s xs =
    any_map (λ y. same_edge y (edge_to k s)) (λ x. edge_to own (subject x)) (filter test xs)
    ∙ (any_filter (λ x. same_key (subject x) s && same_key own k) test xs
    ∙ (any_agree (λ x. test x && (same_key (subject x) s && same_key own k)) (λ x. (test x && same_key (subject x) s) && same_key own k) (λ x. sym (and_assoc (test x) (same_key (subject x) s) (same_key own k))) xs
    ∙ sym (any_and_right (same_key own k) (λ x. test x && same_key (subject x) s) xs)))

-- the edges of one subject that go to an object
pub named_from : (k s : Key) (xs : List Edge) → list_any (λ e. same_key e.dependant k) (of_subject s xs) ≡ has_edge (edge_to k s) xs
named_from k s xs = any_filter (λ e. same_key e.dependant k) (λ e. same_key e.subject s) xs

-- an edge among those of all objects, where an object gives it exactly if it passes the test and is the dependant
module _ {T : Type 0} (key : T → Key) (edges : T → List Edge) (test : Key → T → Bool) (given : (k s : Key) (x : T) → has_edge (edge_to k s) (edges x) ≡ (test s x && same_key (key x) k)) where
  pub depends : (k s : Key) (xs : List (Stored T)) → has_edge (edge_to k s) (edges_by edges xs) ≡ list_any (λ x. test s x.object && same_key (key x.object) k) xs
  depends k s xs =
      any_flat (λ y. same_edge y (edge_to k s)) (λ x. edges x.object) xs
      ∙ any_agree (λ x. has_edge (edge_to k s) (edges x.object)) (λ x. test s x.object && same_key (key x.object) k) (λ x. given k s x.object) xs

-- the keys of the objects that pass a test
pub keys_of : {T : Type 0} (key : T → Key) (test : T → Bool) (k : Key) (xs : List (Stored T))
    → has_key k (map (λ s. key s.object) (filter (λ s. test s.object) xs)) ≡ list_any (λ s. test s.object && same_key (key s.object) k) xs
keys_of key test k xs =
    any_map (λ y. same_key y k) (λ s. key s.object) (filter (λ s. test s.object) xs)
    ∙ any_filter (λ s. same_key (key s.object) k) (λ s. test s.object) xs

abbrev pub class_named : Key → Gateway → Bool
class_named s g = same_key (cluster_key g.gateway_class_name) s

pub class_given : (k s : Key) (g : Gateway) → has_edge (edge_to k s) (class_edges g) ≡ (class_named s g && same_key (gateway_key g) k)
class_given k s g = or_false (class_named s g && same_key (gateway_key g) k)

pub parent_given : (k s : Key) (r : HttpRoute) → has_edge (edge_to k s) (parent_edges r) ≡ (is_under s r && same_key (route_key r) k)
parent_given k s r = named names_gateway parent_key (route_key r) k s r.parent_refs

abbrev pub namespace_named : Key → HttpRoute → Bool
namespace_named s r = same_key (cluster_key r.meta.key.namespace) s

pub namespace_given : (k s : Key) (r : HttpRoute) → has_edge (edge_to k s) (namespace_edges r) ≡ (namespace_named s r && same_key (route_key r) k)
namespace_given k s r = or_false (namespace_named s r && same_key (route_key r) k)

pub service_given : (k s : Key) (r : HttpRoute) → has_edge (edge_to k s) (service_edges r) ≡ (refers_to s r && same_key (route_key r) k)
service_given k s r = named names_service backend_key (route_key r) k s (backend_refs_of r)

abbrev pub grant_named : Key → HttpRoute → Bool
grant_named s r = list_any (λ b. leaves r.meta.key.namespace b && same_key (cluster_key b.namespace) s) (backend_refs_of r)

pub grant_given : (k s : Key) (r : HttpRoute) → has_edge (edge_to k s) (grant_edges r) ≡ (grant_named s r && same_key (route_key r) k)
grant_given k s r = named (leaves r.meta.key.namespace) (λ b. cluster_key b.namespace) (route_key r) k s (backend_refs_of r)

right : (a b : Bool) → (a && b) ≡ true → b ≡ true
right true b e = e
right false b e = cc

-- an object gives edges to itself alone
owned_by : {T : Type 0} (key : T → Key) (edges : T → List Edge) (test : Key → T → Bool) → ((k s : Key) (x : T) → has_edge (edge_to k s) (edges x) ≡ (test s x && same_key (key x) k))
    → (x : T) (e : Edge) → has_edge e (edges x) ≡ true → same_key (key x) e.dependant ≡ true
owned_by key edges test given x e gives = right (test e.subject x) (same_key (key x) e.dependant) (sym (given e.dependant e.subject x) ∙ gives)

pub class_owned : (g : Gateway) (e : Edge) → has_edge e (class_edges g) ≡ true → same_key (gateway_key g) e.dependant ≡ true
class_owned = owned_by gateway_key class_edges class_named class_given

pub parent_owned : (r : HttpRoute) (e : Edge) → has_edge e (parent_edges r) ≡ true → same_key (route_key r) e.dependant ≡ true
parent_owned = owned_by route_key parent_edges is_under parent_given

pub namespace_owned : (r : HttpRoute) (e : Edge) → has_edge e (namespace_edges r) ≡ true → same_key (route_key r) e.dependant ≡ true
namespace_owned = owned_by route_key namespace_edges namespace_named namespace_given

pub service_owned : (r : HttpRoute) (e : Edge) → has_edge e (service_edges r) ≡ true → same_key (route_key r) e.dependant ≡ true
service_owned = owned_by route_key service_edges refers_to service_given

pub grant_owned : (r : HttpRoute) (e : Edge) → has_edge e (grant_edges r) ≡ true → same_key (route_key r) e.dependant ≡ true
grant_owned = owned_by route_key grant_edges grant_named grant_given

-- tests of keys don't tell lists apart that have the same keys
picked : (test : Key → Bool) (k : Key) (xs : List Key) → has_key k xs ≡ true → test k ≡ true → list_any test xs ≡ true
picked test k [] has passes = cc
picked test k (x ∷ xs) has passes =
    elim (known (same_key x k)) [
      | inl is ↦ (rw (ap test (key_is x k is) ∙ passes) refl)
      | inr other ↦ (ap (λ b. test x || b) (picked test k xs (sym (ap (λ b. b || has_key k xs) other) ∙ has) passes) ∙ or_true (test x))
    ]

tail_in : (k x : Key) (xs : List Key) → has_key k xs ≡ true → has_key k (x ∷ xs) ≡ true
tail_in k x xs has = ap (λ b. same_key x k || b) has ∙ or_true (same_key x k)

within : (test : Key → Bool) (xs ys : List Key) → ((k : Key) → has_key k xs ≡ true → has_key k ys ≡ true) → list_any test xs ≡ true → list_any test ys ≡ true
within test [] ys all has = cc
within test (x ∷ xs) ys all has =
    elim (known (test x)) [
      | inl passes ↦ (picked test x ys (all x (ap (λ b. b || has_key x xs) (same_self x))) passes)
      | inr other ↦ (within test xs ys (λ k here. all k (tail_in k x xs here)) (sym (ap (λ b. b || list_any test xs) other) ∙ has))
    ]

same_truth : (a b : Bool) → (a ≡ true → b ≡ true) → (b ≡ true → a ≡ true) → a ≡ b
same_truth true b there back = sym (there refl)
same_truth false true there back = back refl
same_truth false false there back = refl

pub any_alike : (test : Key → Bool) (xs ys : List Key) → ((k : Key) → has_key k xs ≡ has_key k ys) → list_any test xs ≡ list_any test ys
any_alike test xs ys alike =
    same_truth (list_any test xs) (list_any test ys) (within test xs ys (λ k here. sym (alike k) ∙ here)) (within test ys xs (λ k here. alike k ∙ here))

-- whether an object is held
pub held : {T : Type 0} (key : T → Key) (name : Key) (xs : List (Stored T)) → is_some (stored_at key name xs) ≡ list_any (λ s. same_key (key s.object) name) xs
held key name [] = refl
held key name (x ∷ xs) =
    elim (known (same_key (key x.object) name)) [
      | inl is ↦ (rw is refl)
      | inr other ↦ (rw other (held key name xs))
    ]

-- the held Gateway that a parentRef names
through : (n a : Bool) (k p g : Key) → a ≡ same_key g p → (n && (same_key p k && a)) ≡ ((n && same_key p g) && same_key g k)
through n a k p g is =
    elim (known (same_key g p)) [
      | inl same ↦ (
          let turned : same_key p g ≡ true = same_swap p g ∙ same in
          rw (is, same, turned) (ap (λ b. n && b) (and_swap (same_key p k) true ∙ sym (same_through g p k same)) ∙ ap (λ b. b && same_key g k) (and_swap true n)))
      | inr other ↦ (
          let turned : same_key p g ≡ false = same_swap p g ∙ other in
          rw (is, other, turned) (ap (λ b. n && b) (and_false (same_key p k)) ∙ (and_false n ∙ sym (ap (λ b. b && same_key g k) (and_false n)))))
    ]

module _ (w : World) (k : Key) where
  held_one : (p : ParentRef) → is_held_parent w k p ≡ list_any (λ g. (names_gateway p && same_key (parent_key p) (gateway_key g.object)) && same_key (gateway_key g.object) k) w.gateways
  held_one p =
      let key = parent_key p in
      ap (λ b. names_gateway p && (same_key key k && b)) (held gateway_key key w.gateways)
      ∙ (ap (λ b. names_gateway p && b) (any_and (same_key key k) (λ g. same_key (gateway_key g.object) key) w.gateways)
      ∙ (any_and (names_gateway p) (λ g. same_key key k && same_key (gateway_key g.object) key) w.gateways
      ∙ any_agree (λ g. names_gateway p && (same_key key k && same_key (gateway_key g.object) key)) (λ g. (names_gateway p && same_key key (gateway_key g.object)) && same_key (gateway_key g.object) k)
      (λ g. through (names_gateway p) (same_key (gateway_key g.object) key) k key (gateway_key g.object) refl) w.gateways))

  -- the held Gateways that a Route names
  pub held_parents : (r : HttpRoute) → has_held_parent w k r ≡ list_any (λ g. is_under (gateway_key g.object) r && same_key (gateway_key g.object) k) w.gateways
  held_parents r =
      any_agree (is_held_parent w k) (λ p. list_any (λ g. (names_gateway p && same_key (parent_key p) (gateway_key g.object)) && same_key (gateway_key g.object) k) w.gateways) held_one r.parent_refs
      ∙ (any_any (λ p g. (names_gateway p && same_key (parent_key p) (gateway_key g.object)) && same_key (gateway_key g.object) k) r.parent_refs w.gateways
      ∙ any_agree (λ g. list_any (λ p. (names_gateway p && same_key (parent_key p) (gateway_key g.object)) && same_key (gateway_key g.object) k) r.parent_refs)
      (λ g. is_under (gateway_key g.object) r && same_key (gateway_key g.object) k)
      (λ g. sym (any_and_right (same_key (gateway_key g.object) k) (λ p. names_gateway p && same_key (parent_key p) (gateway_key g.object)) r.parent_refs)) w.gateways)

  -- those that some Routes name
  pub held_over : (test : HttpRoute → Bool) (routes : List (Stored HttpRoute))
      → list_any (λ s. test s.object && has_held_parent w k s.object) routes
      ≡ list_any (λ g. list_any (λ s. test s.object && is_under (gateway_key g.object) s.object) routes && same_key (gateway_key g.object) k) w.gateways
  held_over test routes =
      any_agree (λ s. test s.object && has_held_parent w k s.object) (λ s. test s.object && list_any (λ g. is_under (gateway_key g.object) s.object && same_key (gateway_key g.object) k) w.gateways)
      (λ s. ap (λ b. test s.object && b) (held_parents s.object)) routes
      ∙ crossed (λ s. test s.object) (λ s g. is_under (gateway_key g.object) s.object) (λ g. same_key (gateway_key g.object) k) routes w.gateways

  pub held_when : (p : ParentRef) → names_gateway p ≡ true → is_some (gateway_at w (parent_key p)) ≡ true → is_held_parent w k p ≡ same_key (parent_key p) k
  held_when p names held = ap₂ (λ a b. a && (same_key (parent_key p) k && b)) names held ∙ and_swap (same_key (parent_key p) k) true
