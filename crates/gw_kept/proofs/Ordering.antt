-- Lists stay in the order of their keys where something else stands under one key, and what is made of them follows.
use Rattle.std.proofs.Common.{◌≡◌, ◌∙◌, ℕ, zero, suc, ◌+◌, ◌<◌, ◌≤◌, add-one, Bool, true, List, [], ◌∷◌, ◌++◌, Option, Some, None, IfSome, cond, drop, get_or, length, map, option_map, option_to_list, slice_get, take, refl, sym, ap, subst, arith, inl, inr}
use Rattle.std.specs.List.{AllWithin, count_by}
use Rattle.std.specs.declared.cmp.Ordering.TheVariants.{Less, Greater}
use Rattle.std.proofs.lemmas.Map.Keys.{Less-from_sorted}
use Rattle.std.specs.List.Sorted.{IsStrictlySortedBy}
use Rattle.std.proofs.lemmas.List.{length-map, map-append, take-append-drop, take-map, drop-map}
use Rattle.std.proofs.lemmas.List.Sums.{sum_by-append}
use Rattle.gw_text.specs.model.Names.{Key, key_order}
use Rattle.gw_text.proofs.Keys.{higher_from_lower, key_total}
use Rattle.gw_cells.proofs.InOrder.{inserted, removed}
use Rattle.gw_kept.proofs.Alike.{either}
use Rattle.gw_kept.proofs.Turning.{split_at}
use Rattle.gw_kept.specs.Places.{IsInOrder, IsPlaceOf, behind, with_at}
use Rattle.gw_kept.specs.declared.place.Place.{Place}

pub plus_zero : (n : ℕ) → n + 0 ≡ n
plus_zero n = omega arith

pub map_option : {X Y : Type 0} (f : X → Y) (v : Option X) → map f (option_to_list v) ≡ option_to_list (option_map f v)
map_option f None = refl
map_option f (Some x) = refl

-- what is made of each follows
pub map_with : {X Y : Type 0} (f : X → Y) (p : Place) (values xs : List X) → map f (with_at p values xs) ≡ with_at p (map f values) (map f xs)
map_with f p values xs =
    map-append f (take p.at xs) (values ++ drop (behind p) xs)
    ∙ ap (λ t. map f (take p.at xs) ++ t) (map-append f values (drop (behind p) xs))
    ∙ ap (λ t. t ++ (map f values ++ map f (drop (behind p) xs))) (sym (take-map f p.at xs))
    ∙ ap (λ t. take p.at (map f xs) ++ (map f values ++ t)) (sym (drop-map f (behind p) xs))

get_at : {X : Type 0} (at : ℕ) (xs : List X) (x : X) → at < length xs → ((d : X) → get_or xs at d ≡ x) → slice_get xs at ≡ Some x
get_at at [] x within is = absurd (omega arith)
get_at zero (y ∷ xs) x within is = ap Some (is y)
get_at (suc at) (y ∷ xs) x within is = get_at at xs x (omega arith) is

-- as many stand at a place and elsewhere as in all
pub count_moved : {X : Type 0} (q : X → Bool) (front middle rest : List X) → count_by q (front ++ (middle ++ rest)) ≡ count_by q (middle ++ (front ++ rest))
count_moved {X} q front middle rest =
    let f : X → ℕ = λ x. cond (q x) 1 0 in
    sum_by-append f front (middle ++ rest) ∙ ap (λ n. count_by q front + n) (sum_by-append f middle rest)
    ∙ turned (count_by q front) (count_by q middle) (count_by q rest)
    ∙ sym (sum_by-append f middle (front ++ rest) ∙ ap (λ n. count_by q middle + n) (sum_by-append f front rest))
  where
    turned : (a b c : ℕ) → a + (b + c) ≡ b + (a + c)
    turned a b c = omega arith

module _ {X : Type 0} (key : X → Key) (name : Key) where
  keys_with : (p : Place) (v : Option X) (xs : List X) → IfSome v (λ x. key x ≡ name)
      → map key (with_at p (option_to_list v) xs) ≡ with_at p (option_to_list (option_map (λ x. name) v)) (map key xs)
  keys_with p v xs own = map_with key p (option_to_list v) xs ∙ ap (λ t. with_at p t (map key xs)) (by v own)
    where
      by : (v : Option X) → IfSome v (λ x. key x ≡ name) → map key (option_to_list v) ≡ option_to_list (option_map (λ x. name) v)
      by None own = refl
      by (Some x) own = ap (λ k. k ∷ []) own

  module _ (p : Place) (xs : List X) (order : IsInOrder key xs) (place : IsPlaceOf key name xs p) where
    keys : List Key
    keys = map key xs

    taken_within : p.is_taken ≡ true → p.at < length xs
    taken_within taken = omega (arith, rw taken at place.within)

    put : p.is_taken ≡ true → with_at p (name ∷ []) (map key xs) ≡ map key xs
    put taken =
        let bound = taken_within taken in
        let within : p.at < length (map key xs) = rw (length-map xs key) bound in
        rw (taken, add-one)
        (sym (split_at p.at (map key xs) within ∙ ap (λ o. take p.at (map key xs) ++ (option_to_list o ++ drop (suc p.at) (map key xs))) (get_at p.at (map key xs) name within (place.own taken))))

    ordered_keys : (v : Option X) → IsStrictlySortedBy key_order (with_at p (option_to_list (option_map (λ x. name) v)) (map key xs))
    ordered_keys None = elim (either p.is_taken) [
      | inl taken ↦ (rw (taken, add-one) (removed key_order key_total (map key xs) p.at order))
      | inr free ↦ (rw (free, plus_zero, take-append-drop) order)
    ]
    ordered_keys (Some x) = elim (either p.is_taken) [
      | inl taken ↦ (subst (IsStrictlySortedBy key_order) (sym (put taken)) order)
      | inr free ↦
          (let within : p.at ≤ length (map key xs) = rw (length-map xs key) (rw (free, plus_zero) at place.within) in
          let behind_free : behind p ≡ p.at = rw free (plus_zero p.at) in
          let rest = rw (behind_free, ← length-map xs key) at place.higher in
          rw (free, plus_zero) (inserted key_order key_total name (map key xs) p.at order within (place.lower, rest)))
    ]

  -- a list in order stays so
  pub ordered_with : (p : Place) (v : Option X) (xs : List X) → IsInOrder key xs → IsPlaceOf key name xs p → IfSome v (λ x. key x ≡ name)
      → IsInOrder key (with_at p (option_to_list v) xs)
  ordered_with p v xs order place own = subst (IsStrictlySortedBy key_order) (sym (keys_with p v xs own)) (ordered_keys p xs order place v)

-- in a list of keys in order, those before a key are lower
pub lower_than : (name : Key) (keys : List Key) (i : ℕ) → IsStrictlySortedBy key_order keys → i < length keys → ((d : Key) → get_or keys i d ≡ name)
    → AllWithin (λ l. key_order l name ≡ Less) keys 0 i
lower_than name keys i sorted within is k d from to = ap (key_order (get_or keys k d)) (sym (is d)) ∙ Less-from_sorted key_order keys k i d sorted to within

-- and those behind it are higher
pub higher_than : (name : Key) (keys : List Key) (i : ℕ) → IsStrictlySortedBy key_order keys → i < length keys → ((d : Key) → get_or keys i d ≡ name)
    → AllWithin (λ l. key_order l name ≡ Greater) keys (i + 1) (length keys)
higher_than name keys i sorted within is k d from to =
    higher_from_lower name (get_or keys k d) (ap (λ l. key_order l (get_or keys k d)) (sym (is d)) ∙ Less-from_sorted key_order keys i k d sorted (omega arith) to)
