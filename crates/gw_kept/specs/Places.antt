-- Lists of what is kept under keys, and what becomes of them at the place of one key.
use Rattle.std.specs.Prelude.{◌≡◌, ℕ, ◌+◌, ◌≤◌, true, List, ◌++◌, Option, cond, drop, find, get_or, length, map, take}
use Rattle.std.specs.List.{AllWithin}
use Rattle.std.specs.List.Sorted.{IsStrictlySortedBy}
use Rattle.std.specs.declared.cmp.Ordering.TheVariants.{Less, Greater}
use Rattle.gw_text.specs.model.Names.{Key, key_order, same_key}
use Rattle.gw_kept.specs.declared.place.Place.{Place}

-- What is kept stands in the order of its keys, none of which is there twice.
abbrev pub IsInOrder : {X : Type 0} → (X → Key) → List X → Type 0
IsInOrder key_of kept = IsStrictlySortedBy key_order (map key_of kept)

-- What is kept under a key.
abbrev pub kept_at : {X : Type 0} → (X → Key) → Key → List X → Option X
kept_at key_of key kept = find (λ x. same_key (key_of x) key) kept

-- The place behind what stands at this one; where nothing stands there, the place itself.
abbrev pub behind : Place → ℕ
behind p = p.at + cond p.is_taken 1 0

-- The list with these at the place.
abbrev pub with_at : {X : Type 0} → Place → List X → List X → List X
with_at p values xs = take p.at xs ++ (values ++ drop (behind p) xs)

-- The place of a key: what stands before it has lower keys, what stands behind it higher ones, and what stands there, if it is taken,
-- has this key.
pub record IsPlaceOf {X : Type 0} (key_of : X → Key) (key : Key) (xs : List X) (p : Place) : Type 0 where
  pub within : behind p ≤ length xs
  pub lower : AllWithin (λ l. key_order l key ≡ Less) (map key_of xs) 0 p.at
  pub higher : AllWithin (λ l. key_order l key ≡ Greater) (map key_of xs) (behind p) (length xs)
  pub own : p.is_taken ≡ true → (d : Key) → get_or (map key_of xs) p.at d ≡ key
