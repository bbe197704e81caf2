-- The index follows the slices that are held, and what it finds for a Service has all slices of it.
use Rattle.std.proofs.Common.{◌≡◌, ◌∙◌, ℕ, ℤ, zero, suc, Bool, true, false, ◌&&◌, ◌==◌, cond, List, [], ◌∷◌, ◌++◌, filter, map, Option, Some, None, refl, sym, ap, ap₂, inl, inr, get_or, true≢false, codes, eqb-true}
use Rattle.std.specs.List.{AllByRecursion, remove as remove_at}
use Rattle.std.specs.List.Sorted.{IsStrictlySortedBy}
use Rattle.std.specs.Option.{option_map_or}
use Rattle.std.specs.Ordering.{is_lt, is_gt, is_ne}
use Rattle.std.specs.Prelude.{unwrap_or}
use Rattle.std.specs.Str.{bytes_eq}
use Rattle.std.specs.declared.cmp.Ordering.{Ordering}
use Rattle.std.specs.declared.cmp.Ordering.TheVariants.{Less}
use Rattle.std.proofs.lemmas.Bool.{and_parts, eq-eqb}
use Rattle.std.proofs.lemmas.Cmp.{on_total}
use Rattle.std.proofs.lemmas.List.{map-append}
use Rattle.std.proofs.lemmas.List.Elements.{filter-append, filter_agree}
use Rattle.std.proofs.lemmas.Slice.Eq.{bytes_eq-Decides}
use Rattle.gw_text.specs.model.Names.{Key, key_order, is_given, is_in_namespace}
use Rattle.gw_text.specs.model.References.{is_slice_of}
use Rattle.gw_text.specs.model.Selectors.{label_of}
use Rattle.gw_text.specs.model.Slices.{EndpointSlice, is_ipv4_type}
use Rattle.gw_text.specs.model.Stored.{Stored, stored_key, objects_of, put, remove, first_moment, IsInKeyOrder}
use Rattle.gw_text.specs.model.World.{slice_key}
use Rattle.gw_text.proofs.Keys.{key_total, order_from_same}
use Rattle.gw_store.specs.ByService.{service_digest, slice_digest, put_slice, without, of_digest, IsIndexOf}
use Rattle.gw_store.specs.Table.{AllAbove, StandsAt, IsMissingAt}
use Rattle.gw_store.proofs.Digests.{known, fused, swapped, has_digest, put_own, put_other, without_own, without_other}
use Rattle.gw_store.proofs.InOrder.{apart}
use Rattle.gw_store.proofs.Places.{remove-standing}

named : (name : List ℕ) (label : Option (List ℕ)) → option_map_or (bytes_eq name) label false ≡ true → unwrap_or label [] ≡ name
named name None is = absurd (true≢false (sym is))
named name (Some value) is = sym ((bytes_eq-Decides name value).0 is)

digest_is : (k : Key) (e : EndpointSlice) → is_slice_of k e ≡ true → slice_digest e ≡ service_digest k.namespace k.name
unfolding is_slice_of slice_digest
digest_is k e is =
    let label = label_of (codes "kubernetes.io/service-name") e.labels in
    let parts = and_parts (is_ipv4_type e.address_type && is_in_namespace k.namespace e.meta.key) (option_map_or (bytes_eq k.name) label false) is in
    let stands = and_parts (is_ipv4_type e.address_type) (is_in_namespace k.namespace e.meta.key) parts.0 in
    let given = and_parts (is_given k.namespace) (bytes_eq e.meta.key.namespace k.namespace) stands.1 in
    let namespace : e.meta.key.namespace ≡ k.namespace = (bytes_eq-Decides e.meta.key.namespace k.namespace).0 given.1 in
    ap₂ service_digest namespace (named k.name label parts.1)

-- the slices of a Service are among those of its digest
among : (k : Key) (es : List EndpointSlice) → filter (is_slice_of k) (of_digest (service_digest k.namespace k.name) es) ≡ filter (is_slice_of k) es
among k es =
    let digest = service_digest k.namespace k.name in
    fused (is_slice_of k) (has_digest digest) es
    ∙ filter_agree (λ e. has_digest digest e && is_slice_of k e) (is_slice_of k) (λ e.
    elim (known (is_slice_of k e)) [
      | inl is ↦ (let same = eq-eqb (slice_digest e) digest (digest_is k e is) in rw (same, is) refl)
      | inr other ↦ (rw other (elim (known (has_digest digest e)) [
        | inl same ↦ (rw same refl)
        | inr apart ↦ (rw apart refl)
      ]))
    ]) es

pub finds_slices : (k : Key) (slices index : List EndpointSlice) → IsIndexOf slices index →
    filter (is_slice_of k) (of_digest (service_digest k.namespace k.name) index) ≡ filter (is_slice_of k) slices
finds_slices k slices index same = ap (filter (is_slice_of k)) (same (service_digest k.namespace k.name)) ∙ among k slices

-- the slices of other keys
abbrev pub others : Key → List EndpointSlice → List EndpointSlice
others name slices = filter (λ t. is_ne (key_order (slice_key t) name)) slices

objects_filter : (p : EndpointSlice → Bool) (stored : List (Stored EndpointSlice)) → objects_of (filter (λ s. p s.object) stored) ≡ filter p (objects_of stored)
objects_filter p [] = refl
objects_filter p (s ∷ stored) =
    elim (known (p s.object)) [
      | inl e ↦ (rw e (ap (λ (rest : List EndpointSlice). s.object ∷ rest) (objects_filter p stored)))
      | inr e ↦ (rw e (objects_filter p stored))
    ]

abbrev by_key : EndpointSlice → EndpointSlice → Ordering
by_key a b = key_order (slice_key a) (slice_key b)

all_objects : (P : Key → Type 0) (stored : List (Stored EndpointSlice)) → AllByRecursion P (map (stored_key slice_key) stored) → AllByRecursion (λ t. P (slice_key t)) (objects_of stored)
all_objects P [] all = tt
all_objects P (s ∷ stored) all = (all.0, all_objects P stored all.1)

ordered_objects : (stored : List (Stored EndpointSlice)) → IsInKeyOrder slice_key stored → IsStrictlySortedBy by_key (objects_of stored)
unfolding IsStrictlySortedBy
ordered_objects [] order = tt
ordered_objects (s ∷ stored) order = (all_objects (λ k. key_order (slice_key s.object) k ≡ Less) stored order.0, ordered_objects stored order.1)

-- where the key stands or is missing
above_others : (name : Key) (stored : List (Stored EndpointSlice)) → AllAbove slice_key name stored → others name (objects_of stored) ≡ objects_of stored
above_others name [] all = refl
above_others name (s ∷ stored) all = rw all.0 (ap (λ (rest : List EndpointSlice). s.object ∷ rest) (above_others name stored all.1))

missing_others : (name : Key) (stored : List (Stored EndpointSlice)) (i : ℕ) → IsMissingAt slice_key name stored i → others name (objects_of stored) ≡ objects_of stored
missing_others name stored zero gap = above_others name stored gap
missing_others name [] (suc i) gap = absurd gap
missing_others name (s ∷ stored) (suc i) gap = rw gap.0 (ap (λ (rest : List EndpointSlice). s.object ∷ rest) (missing_others name stored i gap.1))

pub standing_key : (name : Key) (stored : List (Stored EndpointSlice)) (i : ℕ) (d : Stored EndpointSlice) → StandsAt slice_key name stored i → slice_key (get_or stored i d).object ≡ name
standing_key name [] i d stands = absurd stands
standing_key name (s ∷ stored) zero d stands = stands.0
standing_key name (s ∷ stored) (suc i) d stands = standing_key name stored i d stands.1

standing_others : (name : Key) (stored : List (Stored EndpointSlice)) (i digest : ℕ) (d : Stored EndpointSlice) → StandsAt slice_key name stored i → (slice_digest (get_or stored i d).object == digest) ≡ false
    → of_digest digest (others name (objects_of stored)) ≡ of_digest digest (objects_of stored)
standing_others name [] i digest d stands other = absurd stands
standing_others name (s ∷ stored) zero digest d stands other = rw (order_from_same (slice_key s.object) name stands.0, other) (ap (of_digest digest) (above_others name stored stands.1))
standing_others name (s ∷ stored) (suc i) digest d stands other =
    rw stands.0 (ap (λ (rest : List EndpointSlice). cond (has_digest digest s.object) (s.object ∷ rest) rest) (standing_others name stored i digest d stands.1 other))

removed_at : (name : Key) (stored : List (Stored EndpointSlice)) (i : ℕ) → StandsAt slice_key name stored i → objects_of (remove_at stored i) ≡ others name (objects_of stored)
removed_at name [] i stands = absurd stands
removed_at name (s ∷ stored) zero stands = rw (order_from_same (slice_key s.object) name stands.0) (sym (above_others name stored stands.1))
removed_at name (s ∷ stored) (suc i) stands = rw stands.0 (ap (λ (rest : List EndpointSlice). s.object ∷ rest) (removed_at name stored i stands.1))

-- a slice that is taken away
module _ (name : Key) (stored : List (Stored EndpointSlice)) (index : List EndpointSlice) (i : ℕ) (d : Stored EndpointSlice) (stands : StandsAt slice_key name stored i) where
  abbrev held : EndpointSlice
  held = (get_or stored i d).object

  pub index_without : IsIndexOf (objects_of stored) index → IsIndexOf (others name (objects_of stored)) (without held index)
  index_without same digest =
      elim (known (slice_digest held == digest)) [
        | inl here ↦ (
            without_own held digest index here
            ∙ (ap (λ (k : Key). others k (of_digest digest index)) (standing_key name stored i d stands)
            ∙ (ap (others name) (same digest) ∙ swapped (λ t. is_ne (key_order (slice_key t) name)) (has_digest digest) (objects_of stored))))
        | inr other ↦ (without_other held digest index other ∙ (same digest ∙ sym (standing_others name stored i digest d stands other)))
      ]

  pub index_removed : IsIndexOf (objects_of stored) index → IsIndexOf (objects_of (remove slice_key name stored)) (without held index)
  index_removed same digest =
      index_without same digest ∙ ap (of_digest digest) (sym (removed_at name stored i stands) ∙ ap objects_of (remove-standing slice_key name stored i stands))

-- a slice that is put
module _ (x : EndpointSlice) (now : ℤ) (stored : List (Stored EndpointSlice)) where
  abbrev lower : List EndpointSlice → List EndpointSlice
  lower slices = filter (λ t. is_lt (key_order (slice_key t) (slice_key x))) slices

  abbrev higher : List EndpointSlice → List EndpointSlice
  higher slices = filter (λ t. is_gt (key_order (slice_key t) (slice_key x))) slices

  put_objects : objects_of (put slice_key x now stored) ≡ lower (objects_of stored) ++ x ∷ higher (objects_of stored)
  unfolding put
  put_objects =
      map-append (λ (s : Stored EndpointSlice). s.object) (filter (λ s. is_lt (key_order (slice_key s.object) (slice_key x))) stored)
      (record { object = x; first = first_moment slice_key (slice_key x) now stored } ∷ filter (λ s. is_gt (key_order (slice_key s.object) (slice_key x))) stored)
      ∙ ap₂ (λ (a b : List EndpointSlice). a ++ x ∷ b) (objects_filter (λ t. is_lt (key_order (slice_key t) (slice_key x))) stored)
      (objects_filter (λ t. is_gt (key_order (slice_key t) (slice_key x))) stored)

  -- where the index is already one of these slices, but for x
  pub index_put : (rest index : List EndpointSlice) → IsInKeyOrder slice_key stored → IsIndexOf rest index →
      ((digest : ℕ) → (slice_digest x == digest) ≡ true → of_digest digest rest ≡ of_digest digest (objects_of stored)) →
      ((digest : ℕ) → (slice_digest x == digest) ≡ false → of_digest digest rest ≡ of_digest digest (others (slice_key x) (objects_of stored))) →
      IsIndexOf (objects_of (put slice_key x now stored)) (put_slice x index)
  index_put rest index order same own other digest =
      let objects = objects_of stored in
      elim (known (slice_digest x == digest)) [
        | inl here ↦ (
            let now_own : of_digest digest (lower objects ++ x ∷ higher objects) ≡ lower (of_digest digest objects) ++ x ∷ higher (of_digest digest objects) =
            filter-append (has_digest digest) (lower objects) (x ∷ higher objects)
            ∙ rw here (ap₂ (λ (a b : List EndpointSlice). a ++ x ∷ b) (swapped (has_digest digest) (λ t. is_lt (key_order (slice_key t) (slice_key x))) objects)
            (swapped (has_digest digest) (λ t. is_gt (key_order (slice_key t) (slice_key x))) objects)) in
            put_own x digest index here
            ∙ (ap (λ (slices : List EndpointSlice). lower slices ++ x ∷ higher slices) (same digest ∙ own digest here) ∙ sym (ap (of_digest digest) put_objects ∙ now_own)))
        | inr apart_from ↦ (
            let now_other : of_digest digest (lower objects ++ x ∷ higher objects) ≡ of_digest digest (others (slice_key x) objects) =
            filter-append (has_digest digest) (lower objects) (x ∷ higher objects)
            ∙ rw apart_from (sym (filter-append (has_digest digest) (lower objects) (higher objects))
            ∙ ap (of_digest digest) (apart by_key (on_total slice_key key_total) x objects (ordered_objects stored order))) in
            put_other x digest index apart_from ∙ (same digest ∙ (other digest apart_from ∙ sym (ap (of_digest digest) put_objects ∙ now_other))))
      ]

  -- a new slice
  pub index_grown : (index : List EndpointSlice) (i : ℕ) → IsInKeyOrder slice_key stored → IsIndexOf (objects_of stored) index → IsMissingAt slice_key (slice_key x) stored i
      → IsIndexOf (objects_of (put slice_key x now stored)) (put_slice x index)
  index_grown index i order same missing =
      index_put (objects_of stored) index order same (λ digest here. refl) (λ digest other. ap (of_digest digest) (sym (missing_others (slice_key x) stored i missing)))

  -- one that stays with its Service
  pub index_kept : (index : List EndpointSlice) (i : ℕ) (d : Stored EndpointSlice) → IsInKeyOrder slice_key stored → IsIndexOf (objects_of stored) index → StandsAt slice_key (slice_key x) stored i
      → slice_digest (get_or stored i d).object ≡ slice_digest x → IsIndexOf (objects_of (put slice_key x now stored)) (put_slice x index)
  index_kept index i d order same stands kept =
      index_put (objects_of stored) index order same (λ digest here. refl)
      (λ digest other. sym (standing_others (slice_key x) stored i digest d stands (ap (λ (n : ℕ). n == digest) kept ∙ other)))

  -- one that goes over to another
  pub index_moved : (index : List EndpointSlice) (i : ℕ) (d : Stored EndpointSlice) → IsInKeyOrder slice_key stored → IsIndexOf (objects_of stored) index → StandsAt slice_key (slice_key x) stored i
      → (slice_digest (get_or stored i d).object == slice_digest x) ≡ false → IsIndexOf (objects_of (put slice_key x now stored)) (put_slice x (without (get_or stored i d).object index))
  index_moved index i d order same stands moved =
      index_put (others (slice_key x) (objects_of stored)) (without (get_or stored i d).object index) order (index_without (slice_key x) stored index i d stands same)
      (λ digest here. standing_others (slice_key x) stored i digest d stands (ap (λ (n : ℕ). slice_digest (get_or stored i d).object == n) (sym (eqb-true (slice_digest x) digest here)) ∙ moved))
      (λ digest other. refl)
