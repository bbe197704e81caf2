-- By what a poll comes to its answer.
use Rattle.std.specs.Prelude.{◌≡◌, ℕ, Result, Ok, Err, ⊤}
use Rattle.futures.specs.declared.task.Poll.{Poll}
use Rattle.futures.specs.declared.task.Poll.TheVariants.{Ready, Pending}
use Rattle.futures.specs.declared.task.context.Context.{Context}
use Rattle.gw_link.specs.Faults.{HasRisen}
use Rattle.gw_polling.specs.Polls.{IsRegistered}
use Rattle.gw_worker.specs.Faults.{CountsRefused}
use Rattle.gw_worker.specs.declared.serve.ConnFault.{ConnFault}
use Rattle.gw_worker.specs.declared.serve.ConnFault.TheVariants.{NoMemory, Place, Read, Write}

-- Where the poll didn't fail, P holds.
abbrev pub OnGoing : {T E : Type 0} → Poll (Result T E) → Type 0 → Type 0
OnGoing (Ready (Ok x)) P = P
OnGoing (Ready (Err e)) P = ⊤
OnGoing Pending P = P

-- Where the poll failed, P holds of why.
abbrev pub IfFailed : {T E : Type 0} → Poll (Result T E) → (E → Type 0) → Type 0
IfFailed (Ready (Ok x)) P = ⊤
IfFailed (Ready (Err e)) P = P e
IfFailed Pending P = ⊤

-- Reads and writes are the cause only where the link's count of faults rose.
abbrev pub HasCause : ℕ → ℕ → ConnFault → Type 0
HasCause before now Read = HasRisen before now
HasCause before now Write = HasRisen before now
HasCause before now Place = ⊤
HasCause before now NoMemory = ⊤

-- A reading of the pass that was refused is counted where it is the cause, and nowhere else.
abbrev pub CountsRefusedIn : {T : Type 0} → Poll (Result T ConnFault) → ℕ → ℕ → Type 0
CountsRefusedIn (Ready (Ok x)) before now = now ≡ before
CountsRefusedIn (Ready (Err fault)) before now = CountsRefused fault before now
CountsRefusedIn Pending before now = now ≡ before

-- An object wasn't ready: its count of waits rose, and it is registered.
abbrev pub HasWaited : Context → ℕ → ℕ → ℕ → Type 0
HasWaited cx source before now = HasRisen before now × IsRegistered cx source
