-- A change of a list at one place, and how it is undone.
use Rattle.std.specs.Prelude.{◌≡◌, ◌≤◌, ◌+◌, ℕ, Bool, true, false, if◌then◌else◌, List, length, set, Option, Some, None, is_some}
use Rattle.std.specs.List.{insert, remove, slice_get}

-- One, where it is so.
abbrev pub one_if : Bool → ℕ
one_if b = if b then 1 else 0

-- What stands at a place, if something does.
abbrev pub there : {X : Type 0} → ℕ → Bool → List X → Option X
there at false xs = None
there at true xs = slice_get xs at

-- The list in which the place has again what it had.
abbrev pub undone : {X : Type 0} → ℕ → Option X → Bool → List X → List X
undone at (Some x) true xs = set xs at x
undone at (Some x) false xs = insert xs at x
undone at None true xs = remove xs at
undone at None false xs = xs

-- What is kept of a change is enough to undo it: the list before it, and for how many items more there was room.
pub record IsUndoable {X : Type 0} (at : ℕ) (had : Option X) (has : Bool) (before after : List X) (spare spare' : ℕ) : Type 0 where
  pub list : before ≡ undone at had has after
  pub within : at + one_if has ≤ length after
  pub room : spare + one_if (is_some had) ≡ spare' + one_if has
