-- How the objects of one kind are held in a world: in key order, each with the moment at which its key was first put.
use Rattle.std.specs.Prelude.{ℕ, ℤ, List, ◌∷◌, ◌++◌, Option, option_map, unwrap_or, filter, find, map, not}
use Rattle.std.specs.Ordering.{is_lt, is_gt}
use Rattle.std.specs.List.Sorted.{IsStrictlySortedBy}
use Rattle.gw_text.specs.model.Names.{Key, same_key, key_order, is_in_namespace}
use Rattle.gw_text.specs.model.Meta.{Meta}

-- An object, with the moment of the change that put it when its key was last absent.
pub record Stored (T : Type 0) : Type 0 where
  pub object : T
  pub first : ℤ

-- The key of a stored object.
abbrev pub stored_key : {T : Type 0} → (T → Key) → Stored T → Key
stored_key key s = key s.object

-- The stored objects without their moments.
abbrev pub objects_of : {T : Type 0} → List (Stored T) → List T
objects_of stored = map (λ s. s.object) stored

-- The stored object of a key.
abbrev pub stored_at : {T : Type 0} → (T → Key) → Key → List (Stored T) → Option (Stored T)
stored_at key name stored = find (λ s. same_key (key s.object) name) stored

-- The moment at which the key was first put: that of the object that stands there, or now.
abbrev pub first_moment : {T : Type 0} → (T → Key) → Key → ℤ → List (Stored T) → ℤ
first_moment key name now stored = unwrap_or (option_map (λ s. s.first) (stored_at key name stored)) now

-- A put: the objects whose keys stand before, the object itself, and those whose keys stand after.
unfoldable pub put : {T : Type 0} → (T → Key) → T → ℤ → List (Stored T) → List (Stored T)
put key x now stored =
    filter (λ s. is_lt (key_order (key s.object) (key x))) stored
    ++ record { object = x; first = first_moment key (key x) now stored }
    ∷ filter (λ s. is_gt (key_order (key s.object) (key x))) stored

-- A removal: the objects of the other keys.
unfoldable pub remove : {T : Type 0} → (T → Key) → Key → List (Stored T) → List (Stored T)
remove key name stored = filter (λ s. not (same_key (key s.object) name)) stored

-- The objects of a namespace.
abbrev pub in_namespace : {T : Type 0} → (T → Key) → List ℕ → List (Stored T) → List (Stored T)
in_namespace key namespace stored = filter (λ s. is_in_namespace namespace (key s.object)) stored

-- Each key stands before those after it, so none stands twice.
abbrev pub IsInKeyOrder : {T : Type 0} → (T → Key) → List (Stored T) → Type 0
IsInKeyOrder key stored = IsStrictlySortedBy key_order (map (stored_key key) stored)

-- When the object was created: as it says itself, else the moment at which its key was first put. Source: creationTimestamp
-- of ObjectMeta.
abbrev pub creation : Meta → ℤ → ℤ
creation meta first = unwrap_or meta.created first
