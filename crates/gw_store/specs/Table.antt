-- A table of objects as contracts see it, and where a key stands in it.
use Rattle.std.specs.Prelude.{◌≡◌, ◌<◌, ℕ, suc, zero, Bool, true, false, nat_eq, List, [], ◌∷◌, length, get_or, Option, Some, None}
use Rattle.std.specs.List.{AllByRecursion, slice_get}
use Rattle.std.specs.declared.cmp.Ordering.TheVariants.{Less, Greater}
use Rattle.gw_text.specs.model.Forms.{is_key}
use Rattle.gw_text.specs.model.Names.{Key, key_order, same_key}
use Rattle.gw_text.specs.model.Stored.{Stored, IsInKeyOrder}
use Rattle.gw_store.specs.Changes.{IsUndoable}

-- The stored objects in key order, and for how many more there is room.
pub record Content (T : Type 0) : Type 0 where
  pub stored : List (Stored T)
  pub spare : ℕ

-- All keys have their form.
abbrev pub AllKeys : {T : Type 0} → (T → Key) → List (Stored T) → Type 0
AllKeys key stored = AllByRecursion (λ s. is_key (key s.object) ≡ true) stored

-- What the objects of a table keep.
pub record IsTable {T : Type 0} (key : T → Key) (stored : List (Stored T)) : Type 0 where
  pub order : IsInKeyOrder key stored
  pub keys : AllKeys key stored

-- A change of a table at one place: the table before it and after it, and the object that it put, if it put one.
pub record Displacement (T : Type 0) : Type 0 where
  pub before : Content T
  pub after : Content T
  pub put : Option T

-- What is kept of a change is enough to undo it, and what is there again is a table.
pub record IsKept {T : Type 0} (key : T → Key) (at : ℕ) (had : Option (Stored T)) (has : Bool) (before after : Content T) : Type 0 where
  pub undoable : IsUndoable at had has before.stored after.stored before.spare after.spare
  pub table : IsTable key before.stored

-- All keys are above this one.
abbrev pub AllAbove : {T : Type 0} → (T → Key) → Key → List (Stored T) → Type 0
AllAbove key name stored = AllByRecursion (λ s. key_order (key s.object) name ≡ Greater) stored

-- The object of this key stands at i: the keys before it are lower, and those after it higher.
abbrev pub StandsAt : {T : Type 0} → (T → Key) → Key → List (Stored T) → ℕ → Type 0
StandsAt key name [] i = ⊥
StandsAt key name (s ∷ stored) zero = (key s.object ≡ name) × AllAbove key name stored
StandsAt key name (s ∷ stored) (suc i) = (key_order (key s.object) name ≡ Less) × StandsAt key name stored i

-- No object has this key, and i is the place between the lower keys and the higher ones.
abbrev pub IsMissingAt : {T : Type 0} → (T → Key) → Key → List (Stored T) → ℕ → Type 0
IsMissingAt key name stored zero = AllAbove key name stored
IsMissingAt key name [] (suc i) = ⊥
IsMissingAt key name (s ∷ stored) (suc i) = (key_order (key s.object) name ≡ Less) × IsMissingAt key name stored i

-- The place, if there is one, is this one.
abbrev pub is_place : Option ℕ → ℕ → Bool
is_place None i = false
is_place (Some place) i = nat_eq place i

-- What stands at the place, if there is one.
abbrev pub at_place : {X : Type 0} → List X → Option ℕ → Option X
at_place xs None = None
at_place xs (Some place) = slice_get xs place

-- The object at this place, if there is a place, has this key, and no object elsewhere has it.
abbrev pub IsPlaceOf : {T : Type 0} → (T → Key) → Key → List (Stored T) → Option ℕ → Type 0
IsPlaceOf key name stored place =
    (i : ℕ) (d : Stored _) → i < length stored → same_key (key (get_or stored i d).object) name ≡ is_place place i
