-- What a poll of a call says: of the call, of counts, of the task, and of what is to come.
use Rattle.std.specs.Prelude.{◌≡◌, ℕ, ◌≤◌, Bool, true, false, List, Option, Some, IfSome, Result, Ok, Err, ⊤}
use Rattle.futures.specs.declared.task.Poll.{Poll}
use Rattle.futures.specs.declared.task.Poll.TheVariants.{Ready, Pending}
use Rattle.futures.specs.declared.task.context.Context.{Context}
use Rattle.futures.specs.Poll.{OnPending}
use Rattle.futures.specs.Task.{Hears, IsArmed}
use Rattle.gw_link.specs.Faults.{HasRisen}
use Rattle.gw_link.specs.Pieces.{IsAtEnd}

-- Where the call was done, P holds of what it gives.
abbrev pub IfDone : {T E : Type 0} → Poll (Result T E) → (T → Type 0) → Type 0
IfDone (Ready (Ok x)) P = P x
IfDone (Ready (Err e)) P = ⊤
IfDone Pending P = ⊤

-- Where the call was done, P holds.
abbrev pub OnDone : {T E : Type 0} → Poll (Result T E) → Type 0 → Type 0
OnDone polled P = IfDone polled (λ _. P)

-- Where the call failed, P holds.
abbrev pub OnFailed : {T E : Type 0} → Poll (Result T E) → Type 0 → Type 0
OnFailed (Ready (Ok x)) P = ⊤
OnFailed (Ready (Err e)) P = P
OnFailed Pending P = ⊤

-- Where the call wasn't done, P holds: it failed, or the object wasn't ready for it.
abbrev pub OnUndone : {T E : Type 0} → Poll (Result T E) → Type 0 → Type 0
OnUndone (Ready (Ok x)) P = ⊤
OnUndone (Ready (Err e)) P = P
OnUndone Pending P = P

-- The object wasn't ready.
abbrev pub is_pending : {A : Type 0} → Poll A → Bool
is_pending (Ready x) = false
is_pending Pending = true

-- The call was done.
abbrev pub is_done : {T E : Type 0} → Poll (Result T E) → Bool
is_done (Ready (Ok x)) = true
is_done (Ready (Err e)) = false
is_done Pending = false

-- The call failed.
abbrev pub is_failed : {T E : Type 0} → Poll (Result T E) → Bool
is_failed (Ready (Ok x)) = false
is_failed (Ready (Err e)) = true
is_failed Pending = false

-- A poll with this answer leaves the count of faults: never lower, and risen where the call failed.
pub record CountsFaults {T E : Type 0} (before now : ℕ) (polled : Poll (Result T E)) : Type 0 where
  pub later : before ≤ now
  pub failed : OnFailed polled (HasRisen before now)

-- A poll with this answer leaves the count of waits: never lower, and risen where the object wasn't ready.
pub record CountsWaits {A : Type 0} (before now : ℕ) (polled : Poll A) : Type 0 where
  pub later : before ≤ now
  pub pending : OnPending polled (HasRisen before now)

-- The poll of the task has registered at the source of this name, or has asked for another poll.
abbrev pub IsRegistered : Context → ℕ → Type 0
IsRegistered cx source = IsArmed cx × Hears cx source

-- It tells that no mark is to come: it is ready from now on, as far as what it has goes.
abbrev pub HasNoMark : Option Bool → Type 0
HasNoMark marks = marks ≡ Some false

-- No mark came.
abbrev pub NoneCame : Option Bool → Option Bool → Type 0
NoneCame before after = HasNoMark before → HasNoMark after

-- Where it tells, nothing is left, the end neither.
abbrev pub IsUsedUp : Option (List ℕ) → Option Bool → Type 0
IsUsedUp left end = IsAtEnd left × IfSome end (λ has_end. has_end ≡ false)
