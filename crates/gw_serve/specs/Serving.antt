-- What serving comes to: how many jobs there are, what is written, and how far a fault lets it come.
use Rattle.std.specs.Prelude.{◌≡◌, ℕ, ◌+◌, ◌*◌, ◌<◌, ◌≤◌, ◌⊎◌, ⊤, List, [], ◌∷◌, codes, length, Option}
use Rattle.std.specs.Coded.{×_prop, Unit-prop}
use Rattle.std.proofs.Props.{props}
use Rattle.gw_link.specs.Faults.{HasRisen}
use Rattle.gw_link.specs.Pieces.{Takes, TakesPart}
use Rattle.gw_snap.specs.Lists.{Book, Seen}
use Rattle.gw_snap.specs.declared.fault.OpenFault.{OpenFault}
use Rattle.gw_snap.specs.declared.fault.OpenFault.TheVariants as opening
use Rattle.gw_store.specs.declared.event.Entry.{Entry}
use Rattle.gw_text.specs.model.Doors.{Door}
use Rattle.gw_serve.specs.declared.fault.ServeFault.{ServeFault}
use Rattle.gw_serve.specs.declared.fault.ServeFault.TheVariants.{Place, Bind, Write, Start, NoMemory}

-- The most workers of all doors together.
abbrev pub most_workers : ℕ
most_workers = 64

-- How many jobs there are: one for the admin endpoint, and one for each worker of each door.
abbrev pub job_count : ℕ → List Door → ℕ
job_count workers doors = 1 + workers * length doors

-- What is written once all sockets are bound.
abbrev pub ready_line : List ℕ
ready_line = codes "{\"ready\":true}\n"

-- The passes are of this opening, with its doors and its controller's name.
abbrev pub AreOf : Book → List Door × List ℕ → List (Seen Entry (List Door × List ℕ)) → Type 0
AreOf book fixed [] = ⊤
AreOf book fixed (pass ∷ passes) = (pass.book ≡ book) × ((pass.fixed ≡ fixed) × AreOf book fixed passes)

-- That is so in one way only.
pub AreOf-prop : (book : Book) (fixed : List Door × List ℕ) (passes : List (Seen Entry (List Door × List ℕ))) → IsProp (AreOf book fixed passes)
AreOf-prop book fixed [] = Unit-prop
AreOf-prop book fixed (pass ∷ passes) = ×_prop {A = pass.book ≡ book} (Prim.hlevel props) (×_prop {A = pass.fixed ≡ fixed} (Prim.hlevel props) (AreOf-prop book fixed passes))

-- The fault of an opening that was refused.
abbrev pub of_opening : OpenFault → ServeFault
of_opening opening.Place = Place
of_opening opening.NoMemory = NoMemory

-- Sockets couldn't be bound, which the edge counts, or memory was wanting.
abbrev pub IsBindFault : ServeFault → ℕ → ℕ → Type 0
IsBindFault Place faults faults' = ⊥
IsBindFault Bind faults faults' = HasRisen faults faults'
IsBindFault Write faults faults' = ⊥
IsBindFault Start faults faults' = ⊥
IsBindFault NoMemory faults faults' = ⊤

-- A job couldn't be started, which the crew counts, or memory was wanting.
abbrev pub IsStartFault : ServeFault → ℕ → ℕ → Type 0
IsStartFault Place faults faults' = ⊥
IsStartFault Bind faults faults' = ⊥
IsStartFault Write faults faults' = ⊥
IsStartFault Start faults faults' = HasRisen faults faults'
IsStartFault NoMemory faults faults' = ⊤

-- It couldn't be written that all is ready, which the sink counts, or a job couldn't be started, which the crew counts, or memory was
-- wanting.
abbrev pub IsRunFault : ServeFault → ℕ → ℕ → ℕ → ℕ → Type 0
IsRunFault Place sink sink' crew crew' = ⊥
IsRunFault Bind sink sink' crew crew' = ⊥
IsRunFault Write sink sink' crew crew' = HasRisen sink sink'
IsRunFault Start sink sink' crew crew' = HasRisen crew crew'
IsRunFault NoMemory sink sink' crew crew' = ⊤

-- It wasn't ready: nothing was written, and no job started.
abbrev pub IsUnready : Option (List ℕ) → Option (List ℕ) → ℕ → ℕ → Type 0
IsUnready written written' started started' = (written' ≡ written) × (started' ≡ started)

-- It was ready, and said so, but not all jobs were started.
abbrev pub IsCutShort : ℕ → Option (List ℕ) → Option (List ℕ) → ℕ → ℕ → Type 0
IsCutShort jobs written written' started started' = Takes written ready_line written' × (started ≤ started') × (started' < started + jobs)

-- How far it comes with so many jobs where it ends by a fault: what is written, and how many jobs are started.
abbrev pub Leaves : ServeFault → ℕ → Option (List ℕ) → Option (List ℕ) → ℕ → ℕ → Type 0
Leaves Place jobs written written' started started' = IsUnready written written' started started'
Leaves Bind jobs written written' started started' = IsUnready written written' started started'
Leaves Write jobs written written' started started' = TakesPart written ready_line written' × (started' ≡ started)
Leaves Start jobs written written' started started' = IsCutShort jobs written written' started started'
Leaves NoMemory jobs written written' started started' = IsUnready written written' started started' ⊎ IsCutShort jobs written written' started started'
