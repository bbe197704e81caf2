-- Lists in the order of keys are one where they tell the same of each key.
use Rattle.std.proofs.Common.{◌≡◌, ◌∙◌, true, false, ◌⊎◌, inl, inr, List, [], ◌∷◌, Bool, Option, Some, None, map, not, refl, sym, ap, ap₂, subst, unwrap_or, true≢false}
use Rattle.std.specs.List.{AllByRecursion}
use Rattle.std.specs.List.Sorted.{IsStrictlySortedBy}
use Rattle.std.specs.Ordering.{is_lt}
use Rattle.std.specs.declared.cmp.Ordering.TheVariants.{Less}
use Rattle.gw_text.specs.model.Names.{Key, key_order, same_key}
use Rattle.gw_text.proofs.Keys.{higher_from_lower, other_from_higher, same_from_key}
use Rattle.gw_deps.proofs.Replacing.{key_is}
use Rattle.gw_kept.specs.Places.{IsInOrder, kept_at}

pub either : (b : Bool) → (b ≡ true) ⊎ (b ≡ false)
either true = inl refl
either false = inr refl

pub if_not : (b : Bool) → not b ≡ false → b ≡ true
if_not true is = refl
if_not false is = absurd (true≢false is)

module _ {X : Type 0} (key : X → Key) where
  -- the key stands before all of these
  abbrev pub Before : Key → List X → Type 0
  Before k xs = AllByRecursion (λ l. key_order k l ≡ Less) (map key xs)

  none_behind : (k : Key) (xs : List X) → Before k xs → kept_at key k xs ≡ None
  none_behind k [] all = refl
  none_behind k (x ∷ xs) all = rw (other_from_higher (key x) k (higher_from_lower k (key x) all.0)) (none_behind k xs all.1)

  -- what is found under a key stands behind what stands before all
  found_behind : (k l : Key) (y : X) (xs : List X) → Before l xs → kept_at key k xs ≡ Some y → key_order l (key y) ≡ Less
  found_behind k l y [] all found = absurd (none_some y found)
    where
      none_some : (y : X) → None ≡ Some y → ⊥
      none_some y e = true≢false (ap (λ (o : Option X). by o) (sym e))
        where
          by : Option X → Bool
          by None = false
          by (Some x) = true
  found_behind k l y (x ∷ xs) all found = elim (either (same_key (key x) k)) [
    | inl here ↦ (ap (key_order l) (ap key (sym (ap (λ (o : Option X). unwrap_or o x) (rw here at found)))) ∙ all.0)
    | inr other ↦ (found_behind k l y xs all.1 (rw other at found))
  ]

  first_found : (x : X) (xs : List X) → kept_at key (key x) (x ∷ xs) ≡ Some x
  first_found x xs = rw (same_from_key (key x) (key x) refl) refl

  later_found : (k : Key) (x : X) (xs : List X) → same_key (key x) k ≡ false → kept_at key k (x ∷ xs) ≡ kept_at key k xs
  later_found k x xs other = rw other refl

  both_before : (k l : Key) → key_order k l ≡ Less → key_order l k ≡ Less → ⊥
  both_before k l less more = true≢false (sym (ap is_lt more) ∙ ap is_lt (higher_from_lower k l less))

  same_turned : (k l : Key) → same_key k l ≡ false → same_key l k ≡ false
  same_turned k l other = elim (either (same_key l k)) [
    | inl same ↦ (absurd (true≢false (sym (same_from_key k l (sym (key_is l k same))) ∙ other)))
    | inr apart ↦ apart
  ]

  -- what two lists tell of each key behind their first ones
  rest_alike : (x y : X) (xs ys : List X) → key x ≡ key y → Before (key x) xs → Before (key y) ys → ((k : Key) → kept_at key k (x ∷ xs) ≡ kept_at key k (y ∷ ys))
      → (k : Key) → kept_at key k xs ≡ kept_at key k ys
  rest_alike x y xs ys one first second alike k = elim (either (same_key (key x) k)) [
    | inl here ↦
        (let is = key_is (key x) k here in
        none_behind k xs (subst (λ l. Before l xs) is first) ∙ sym (none_behind k ys (subst (λ l. Before l ys) (sym one ∙ is) second)))
    | inr other ↦
        (sym (later_found k x xs other) ∙ alike k ∙ later_found k y ys (ap (λ l. same_key l k) (sym one) ∙ other))
  ]

  pub alike_are_one : (xs ys : List X) → IsInOrder key xs → IsInOrder key ys → ((k : Key) → kept_at key k xs ≡ kept_at key k ys) → xs ≡ ys
  unfolding IsStrictlySortedBy
  alike_are_one [] [] order others alike = refl
  alike_are_one [] (y ∷ ys) order others alike = absurd (nothing (alike (key y) ∙ first_found y ys))
    where
      nothing : None ≡ Some y → ⊥
      nothing e = true≢false (ap (λ (o : Option X). by o) (sym e))
        where
          by : Option X → Bool
          by None = false
          by (Some x) = true
  alike_are_one (x ∷ xs) [] order others alike = absurd (nothing (sym (first_found x xs) ∙ alike (key x)))
    where
      nothing : Some x ≡ None → ⊥
      nothing e = true≢false (ap (λ (o : Option X). by o) e)
        where
          by : Option X → Bool
          by None = false
          by (Some x) = true
  alike_are_one (x ∷ xs) (y ∷ ys) order others alike = elim (either (same_key (key y) (key x))) [
    | inl same ↦
        (let one : key x ≡ key y = sym (key_is (key y) (key x) same) in
        let found : Some x ≡ Some y = sym (first_found x xs) ∙ alike (key x) ∙ rw same refl in
        ap₂ (λ z zs. z ∷ zs) (ap (λ (o : Option X). unwrap_or o x) found)
        (alike_are_one xs ys order.1 others.1 (rest_alike x y xs ys one order.0 others.0 alike)))
    | inr apart ↦
        (let below : key_order (key y) (key x) ≡ Less =
        found_behind (key x) (key y) x ys others.0 (sym (later_found (key x) y ys apart) ∙ sym (alike (key x)) ∙ first_found x xs) in
        let above : key_order (key x) (key y) ≡ Less =
        found_behind (key y) (key x) y xs order.0 (sym (later_found (key y) x xs (same_turned (key y) (key x) apart)) ∙ alike (key y) ∙ first_found y ys) in
        absurd (both_before (key x) (key y) above below))
  ]
