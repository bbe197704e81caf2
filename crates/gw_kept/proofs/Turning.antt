-- What is found where something else stands under one key.
use Rattle.std.proofs.Common.{◌≡◌, ◌∙◌, ℕ, zero, suc, ◌+◌, ◌<◌, ◌≤◌, add-one, true, false, List, [], ◌∷◌, ◌++◌, Option, Some, None, IfSome, cond, option_to_list, drop, get_or, length, map, slice_get, take, refl, sym, ap, subst, arith, inl, inr}
use Rattle.std.specs.Option.{option_or}
use Rattle.std.specs.Prelude.{if◌then◌else◌}
use Rattle.std.specs.List.{AllByRecursion, AllWithin}
use Rattle.std.specs.declared.cmp.Ordering.TheVariants.{Less, Greater}
use Rattle.std.proofs.lemmas.List.{take-append-drop}
use Rattle.std.proofs.lemmas.List.Folds.{find-append}
use Rattle.gw_text.specs.model.Names.{Key, key_order, same_key}
use Rattle.gw_text.proofs.Keys.{other_from_higher, other_from_lower, same_from_key}
use Rattle.gw_deps.proofs.Replacing.{key_is}
use Rattle.gw_kept.proofs.Alike.{either}
use Rattle.gw_kept.specs.Places.{IsPlaceOf, behind, kept_at, with_at}
use Rattle.gw_kept.specs.declared.place.Place.{Place}

plus_zero : (n : ℕ) → n + 0 ≡ n
plus_zero n = omega arith

-- a list is what stands before a place, what stands there, and what stands behind it
pub split_at : {X : Type 0} (at : ℕ) (xs : List X) → at < length xs → xs ≡ take at xs ++ (option_to_list (slice_get xs at) ++ drop (suc at) xs)
split_at at [] within = absurd (omega arith)
split_at zero (x ∷ xs) within = refl
split_at (suc at) (x ∷ xs) within = ap (λ t. x ∷ t) (split_at at xs (omega arith))

-- what stands at the place
abbrev pub standing : {X : Type 0} → Place → List X → Option X
standing p xs = cond p.is_taken (slice_get xs p.at) None

pub parts : {X : Type 0} (p : Place) (xs : List X) → behind p ≤ length xs → xs ≡ take p.at xs ++ (option_to_list (standing p xs) ++ drop (behind p) xs)
parts p xs within = elim (either p.is_taken) [
  | inl taken ↦ (let bound : p.at < length xs = omega (arith, rw taken at within) in rw (taken, add-one) (split_at p.at xs bound))
  | inr free ↦ (rw (free, plus_zero) (sym (take-append-drop p.at xs)))
]

-- what stands there already changes nothing
pub stays : {X : Type 0} (p : Place) (x : X) (xs : List X) → p.is_taken ≡ true → slice_get xs p.at ≡ Some x → behind p ≤ length xs → with_at p (x ∷ []) xs ≡ xs
stays p x xs taken there within =
    let standing_is : standing p xs ≡ Some x = rw taken there in
    sym (parts p xs within ∙ ap (λ o. take p.at xs ++ (option_to_list o ++ drop (behind p) xs)) standing_is)

module _ {X : Type 0} (key : X → Key) (name : Key) where
  low_part : (n : ℕ) (xs : List X) → AllWithin (λ l. key_order l name ≡ Less) (map key xs) 0 n → AllByRecursion (λ l. key_order l name ≡ Less) (map key (take n xs))
  low_part zero xs all = tt
  low_part (suc n) [] all = tt
  low_part (suc n) (x ∷ xs) all = (all 0 (key x) (omega arith) (omega arith), low_part n xs (λ k d from to. all (suc k) d (omega arith) (omega arith)))

  high_part : (n : ℕ) (xs : List X) → AllWithin (λ l. key_order l name ≡ Greater) (map key xs) n (length xs) → AllByRecursion (λ l. key_order l name ≡ Greater) (map key (drop n xs))
  high_part zero [] all = tt
  high_part zero (x ∷ xs) all = (all 0 (key x) (omega arith) (omega arith), high_part zero xs (λ k d from to. all (suc k) d (omega arith) (omega arith)))
  high_part (suc n) [] all = tt
  high_part (suc n) (x ∷ xs) all = high_part n xs (λ k d from to. all (suc k) d (omega arith) (omega arith))

  none_lower : (xs : List X) → AllByRecursion (λ l. key_order l name ≡ Less) (map key xs) → kept_at key name xs ≡ None
  none_lower [] all = refl
  none_lower (x ∷ xs) all = rw (other_from_lower (key x) name all.0) (none_lower xs all.1)

  none_higher : (xs : List X) → AllByRecursion (λ l. key_order l name ≡ Greater) (map key xs) → kept_at key name xs ≡ None
  none_higher [] all = refl
  none_higher (x ∷ xs) all = rw (other_from_higher (key x) name all.0) (none_higher xs all.1)

  own_found : (v : Option X) → IfSome v (λ x. key x ≡ name) → kept_at key name (option_to_list v) ≡ v
  own_found None own = refl
  own_found (Some x) own = rw (same_from_key (key x) name own) refl

  no_other_found : (k : Key) (v : Option X) → IfSome v (λ x. key x ≡ name) → same_key name k ≡ false → kept_at key k (option_to_list v) ≡ None
  no_other_found k None own other = refl
  no_other_found k (Some x) own other = rw (ap (λ l. same_key l k) own ∙ other) refl

  or_none : (o : Option X) → option_or o None ≡ o
  or_none None = refl
  or_none (Some x) = refl

  in_three : (k : Key) (front middle rest : List X) → kept_at key k (front ++ (middle ++ rest)) ≡ option_or (kept_at key k front) (option_or (kept_at key k middle) (kept_at key k rest))
  in_three k front middle rest =
      find-append (λ x. same_key (key x) k) front (middle ++ rest)
      ∙ ap (option_or (kept_at key k front)) (find-append (λ x. same_key (key x) k) middle rest)

  found_there : (v : Option X) (front rest : List X) → IfSome v (λ x. key x ≡ name)
      → AllByRecursion (λ l. key_order l name ≡ Less) (map key front) → AllByRecursion (λ l. key_order l name ≡ Greater) (map key rest)
      → kept_at key name (front ++ (option_to_list v ++ rest)) ≡ v
  found_there v front rest own lower higher =
      in_three name front (option_to_list v) rest
      ∙ rw (none_lower front lower, own_found v own, none_higher rest higher) (or_none v)

  found_elsewhere : (k : Key) (v : Option X) (front rest : List X) → IfSome v (λ x. key x ≡ name) → same_key name k ≡ false
      → kept_at key k (front ++ (option_to_list v ++ rest)) ≡ kept_at key k (front ++ rest)
  found_elsewhere k v front rest own other =
      in_three k front (option_to_list v) rest
      ∙ ap (λ o. option_or (kept_at key k front) (option_or o (kept_at key k rest))) (no_other_found k v own other)
      ∙ sym (find-append (λ x. same_key (key x) k) front rest)

  own_at : (at : ℕ) (xs : List X) → at < length xs → ((d : Key) → get_or (map key xs) at d ≡ name) → IfSome (slice_get xs at) (λ x. key x ≡ name)
  own_at at [] within own = absurd (omega arith)
  own_at zero (x ∷ xs) within own = own (key x)
  own_at (suc at) (x ∷ xs) within own = own_at at xs (omega arith) own

  -- what stands at the place of the key has the key
  pub own_standing : (p : Place) (xs : List X) → IsPlaceOf key name xs p → IfSome (standing p xs) (λ x. key x ≡ name)
  own_standing p xs place = elim (either p.is_taken) [
    | inl taken ↦ (let bound : p.at < length xs = omega (arith, rw taken at place.within) in rw taken (own_at p.at xs bound (place.own taken)))
    | inr free ↦ (rw free tt)
  ]

  -- under the key is found what is put there, and under each other key what was there before
  pub found_with : (p : Place) (v : Option X) (xs : List X) → IsPlaceOf key name xs p → IfSome v (λ x. key x ≡ name) → (k : Key)
      → kept_at key k (with_at p (option_to_list v) xs) ≡ (if same_key name k then v else kept_at key k xs)
  found_with p v xs place own k = elim (either (same_key name k)) [
    | inl same ↦ (rw same (subst (λ l. kept_at key l (with_at p (option_to_list v) xs) ≡ v) (key_is name k same) (found_there v front rest own lower higher)))
    | inr other ↦
        (let before : kept_at key k xs ≡ kept_at key k (front ++ rest) =
        ap (kept_at key k) (parts p xs place.within) ∙ found_elsewhere k (standing p xs) front rest (own_standing p xs place) other in
        rw other (found_elsewhere k v front rest own other ∙ sym before))
  ]
    where
      front : List X
      front = take p.at xs

      rest : List X
      rest = drop (behind p) xs

      lower : AllByRecursion (λ l. key_order l name ≡ Less) (map key front)
      lower = low_part p.at xs place.lower

      higher : AllByRecursion (λ l. key_order l name ≡ Greater) (map key rest)
      higher = high_part (behind p) xs place.higher
