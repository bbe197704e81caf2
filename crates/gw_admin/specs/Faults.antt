-- Why connections are given up, and what a pass counts of that.
use Rattle.std.specs.Prelude.{◌≡◌, ◌<◌, List, length, ℕ, Result, Ok, Err}
use Rattle.gw_hub.specs.declared.receipt.HubFault.{HubFault}
use Rattle.gw_hub.specs.declared.receipt.HubFault.TheVariants as hub
use Rattle.gw_link.specs.Faults.{HasRisen}
use Rattle.gw_snap.specs.Counts.{Rises}
use Rattle.gw_snap.specs.Lists.{Seen}
use Rattle.gw_snap.specs.declared.fault.OpenFault.{OpenFault}
use Rattle.gw_snap.specs.declared.fault.OpenFault.TheVariants as reading
use Rattle.gw_store.specs.declared.event.Entry.{Entry}
use Rattle.gw_text.specs.model.Doors.{Door}
use Rattle.gw_admin.specs.declared.fault.AdminFault.{AdminFault}
use Rattle.gw_admin.specs.declared.fault.AdminFault.TheVariants.{Read, Write, Place, NoMemory, Ahead}

-- That of a refused reading.
abbrev pub of_open : OpenFault → AdminFault
of_open reading.Place = Place
of_open reading.NoMemory = NoMemory

-- That of a hub that gave no answer.
abbrev pub of_hub : HubFault → AdminFault
of_hub hub.NoMemory = NoMemory
of_hub (hub.Held first accepted) = NoMemory
of_hub (hub.Ahead mine its) = Ahead mine its

-- What a pass of the hub's opening has seen.
abbrev pub PassSeen : Type 0
PassSeen = Seen Entry (List Door × List ℕ)

-- A pass counts nothing.
pub record CountsNothing (old new : PassSeen) : Type 0 where
  pub refused : new.refused ≡ old.refused
  pub ahead : new.ahead ≡ old.ahead

-- A pass was refused a place, and counts that.
pub record CountsPlace (old new : PassSeen) : Type 0 where
  pub refused : Rises old.refused new.refused
  pub ahead : new.ahead ≡ old.ahead

-- A pass was found ahead of what is published, with the two fronts, and counts that.
pub record CountsAhead (mine its : ℕ) (old new : PassSeen) : Type 0 where
  pub refused : new.refused ≡ old.refused
  pub ahead : Rises old.ahead new.ahead
  pub front : mine ≡ length new.seen
  pub above : its < mine

-- What a pass counts where a connection is given up.
abbrev pub CountsAs : AdminFault → PassSeen → PassSeen → Type 0
CountsAs Read old new = CountsNothing old new
CountsAs Write old new = CountsNothing old new
CountsAs Place old new = CountsPlace old new
CountsAs NoMemory old new = CountsNothing old new
CountsAs (Ahead mine its) old new = CountsAhead mine its old new

-- What a pass counts by what comes of a call.
abbrev pub Counts : {X : Type 0} → Result X AdminFault → PassSeen → PassSeen → Type 0
Counts (Ok x) old new = CountsNothing old new
Counts (Err fault) old new = CountsAs fault old new

-- What a pass counts where a request isn't answered, which is for no fault of a link.
abbrev pub CountsUnanswered : AdminFault → PassSeen → PassSeen → Type 0
CountsUnanswered Read old new = ⊥
CountsUnanswered Write old new = ⊥
CountsUnanswered Place old new = CountsPlace old new
CountsUnanswered NoMemory old new = CountsNothing old new
CountsUnanswered (Ahead mine its) old new = CountsAhead mine its old new

-- The same by what comes of a request.
abbrev pub CountsAnswer : {X : Type 0} → Result X AdminFault → PassSeen → PassSeen → Type 0
CountsAnswer (Ok x) old new = CountsNothing old new
CountsAnswer (Err fault) old new = CountsUnanswered fault old new

-- A link failed, and its pass counts nothing.
pub record IsOfLink (old new : PassSeen) (faults faults' : ℕ) : Type 0 where
  pub counts : CountsNothing old new
  pub risen : HasRisen faults faults'

-- Why a call was given up that writes and doesn't read: by what a pass counts, and a link's count of faults.
abbrev pub IsCause : AdminFault → PassSeen → PassSeen → ℕ → ℕ → Type 0
IsCause Read old new faults faults' = ⊥
IsCause Write old new faults faults' = IsOfLink old new faults faults'
IsCause Place old new faults faults' = CountsPlace old new
IsCause NoMemory old new faults faults' = CountsNothing old new
IsCause (Ahead mine its) old new faults faults' = CountsAhead mine its old new

-- The same of a call that reads, too.
abbrev pub IsCauseOf : AdminFault → PassSeen → PassSeen → ℕ → ℕ → Type 0
IsCauseOf Read old new faults faults' = IsOfLink old new faults faults'
IsCauseOf Write old new faults faults' = IsOfLink old new faults faults'
IsCauseOf Place old new faults faults' = CountsPlace old new
IsCauseOf NoMemory old new faults faults' = CountsNothing old new
IsCauseOf (Ahead mine its) old new faults faults' = CountsAhead mine its old new
