-- What a run of the program reads and writes, and how it ends.
use Rattle.std.specs.Prelude.{◌≡◌, ℕ, ℤ, ⊤, ◌+◌, ◌<◌, ◌⊎◌, List, [], Bool, if◌then◌else◌, Option, Some, Ok, Err}
use Rattle.gw_link.specs.Faults.{HasRisen}
use Rattle.gw_link.specs.Pieces.{Takes, TakesPart}
use Rattle.gw_command.specs.Faults.{exit_code, fault_line}
use Rattle.gw_command.specs.Starts.{Setting, Starts, a_generation, a_service}
use Rattle.gw_command.specs.Words.{GenerateWords}
use Rattle.gw_command.specs.declared.fault.Fault.{Fault}
use Rattle.gw_command.specs.declared.fault.Fault.TheVariants.{WriteFailed, NotBound, NotStarted, NoPlace, NoMemory}
use Rattle.gw_replay.specs.declared.ending.Ending.{Ending}
use Rattle.gw_replay.specs.declared.ending.Ending.TheVariants.{Done, Place, Ahead}
use Rattle.gw_snap.specs.Counts.{Counts}
use Rattle.gw_serve.specs.Serving.{Leaves, job_count, ready_line}
use Rattle.gw_serve.specs.declared.fault.ServeFault.{ServeFault}
use Rattle.gw_serve.specs.declared.fault.ServeFault.TheVariants as serving
use Rattle.gw_text.specs.model.Addresses.{Socket}
use Rattle.gateward.specs.Outputs.{IsGenerated, IsOutput}

-- The exit code of an ending: whether a line was refused, or why a script was given up.
abbrev pub code_of : Ending → ℕ
code_of (Done refused) = if refused then 1 else 0
code_of Place = 5
code_of Ahead = 8

-- The input was read to its end, and its text was written; the exit code says whether a line was refused.
pub record WritesText (code : ℕ) (words : List (List ℕ)) (input : List ℕ) (told : Option (List ℤ)) (left before written : Option (List ℕ)) : Type 0 where
  pub setting : Setting
  pub start : Starts words (Ok setting)
  pub text : List ℕ
  pub refused : Bool
  pub output : IsOutput setting input told (Done refused) text
  pub read : left ≡ Some []
  pub takes : Takes before text written
  pub ends : code ≡ code_of (Done refused)

-- The front of the input's text was written.
pub record WritesFront (words : List (List ℕ)) (input : List ℕ) (told : Option (List ℤ)) (before written : Option (List ℕ)) : Type 0 where
  pub setting : Setting
  pub start : Starts words (Ok setting)
  pub text : List ℕ
  pub refused : Bool
  pub output : IsOutput setting input told (Done refused) text
  pub takes : TakesPart before text written

-- The piece was written, unless the sink failed: then the front of it.
abbrev pub WritesPiece : Option (List ℕ) → List ℕ → Option (List ℕ) → ℕ → ℕ → Type 0
WritesPiece before piece after faults faults' = Takes before piece after ⊎ (HasRisen faults faults' × TakesPart before piece after)

-- The input was read to its end, and a script was given up so: its text so far and the last line were written, unless the sink failed.
pub record GivesUp (ending : Ending) (words : List (List ℕ)) (input : List ℕ) (told : Option (List ℤ)) (left before after : Option (List ℕ)) (faults faults' : ℕ) : Type 0 where
  pub setting : Setting
  pub start : Starts words (Ok setting)
  pub text : List ℕ
  pub output : IsOutput setting input told ending text
  pub read : left ≡ Some []
  pub takes : WritesPiece before text after faults faults'

-- The words have a fault by which the program ends with this exit code, and its line was written.
pub record EndsAtStart (code : ℕ) (words : List (List ℕ)) (before after : Option (List ℕ)) (faults faults' : ℕ) : Type 0 where
  pub fault : Fault
  pub start : Starts words (Err fault)
  pub exit : code ≡ exit_code fault
  pub line : WritesPiece before (fault_line fault) after faults faults'

-- A text that came to this end was written, and this is the exit code. Whether the text of a script that was given up can be written
-- changes nothing of that.
abbrev pub Finishes : ℕ → Ending → List ℕ → Option (List ℕ) → Option (List ℕ) → ℕ → ℕ → Type 0
Finishes code (Done refused) text before after faults faults' =
    ((code ≡ code_of (Done refused)) × Takes before text after)
    ⊎ ((code ≡ exit_code WriteFailed) × HasRisen faults faults' × TakesPart before text after)
Finishes code Place text before after faults faults' = (code ≡ code_of Place) × WritesPiece before text after faults faults'
Finishes code Ahead text before after faults faults' = (code ≡ code_of Ahead) × WritesPiece before text after faults faults'

-- The exit codes of a run: 0, 1, that of a script whose worker was ahead, and those of the faults.
abbrev pub IsExit : ℕ → Type 0
IsExit code = (code < 2) ⊎ ((code ≡ code_of Ahead) ⊎ ((fault : Fault) × (code ≡ exit_code fault)))

-- The words set it to write a script, or to run it.
pub record SetToGenerate (words : List (List ℕ)) : Type 0 where
  pub setting : Setting
  pub generation : GenerateWords
  pub start : Starts words (Ok setting)
  pub task : setting.task ≡ a_generation generation

-- What is written of a script came to this end, and was written as this exit code says.
pub record Generates (code : ℕ) (generation : GenerateWords) (told : Option (List ℤ)) (before after : Option (List ℕ)) (faults faults' : ℕ) : Type 0 where
  pub ending : Ending
  pub text : List ℕ
  pub output : IsGenerated generation told ending text
  pub finishes : Finishes code ending text before after faults faults'

-- An exit code of a text, or of want of memory for it, with its cause.
pub record HasEnded (code sink sink' : ℕ) (snap snap' : Counts) : Type 0 where
  pub exits : IsExit code
  pub uncounted : code < 2 → snap' ≡ snap
  pub place : code ≡ code_of Place → HasRisen snap.places snap'.places
  pub above : code ≡ code_of Ahead → HasRisen snap.ahead snap'.ahead
  pub failed : code ≡ exit_code WriteFailed → HasRisen sink sink'
  pub others : (code ≡ 2 → ⊥) × (code ≡ 3 → ⊥) × (code ≡ 7 → ⊥)
  pub complete : (HasRisen sink sink' → ⊥) → (HasRisen snap.places snap'.places → ⊥) → (HasRisen snap.ahead snap'.ahead → ⊥)
      → (code < 2) ⊎ (code ≡ exit_code NoMemory)

-- The fault by which a service ends.
abbrev pub service_fault : ServeFault → Fault
service_fault serving.Place = NoPlace
service_fault serving.Bind = NotBound
service_fault serving.Write = WriteFailed
service_fault serving.Start = NotStarted
service_fault serving.NoMemory = NoMemory

-- The words set it to serve: by so many workers at each door, which poll their connections or not.
pub record SetToServe (words : List (List ℕ)) : Type 0 where
  pub setting : Setting
  pub workers : ℕ
  pub conns : Option ℕ
  pub admin : Socket
  pub polled : Bool
  pub start : Starts words (Ok setting)
  pub task : setting.task ≡ a_service workers conns admin polled

-- How many jobs there are for these words.
abbrev pub jobs_of : (words : List (List ℕ)) → SetToServe words → ℕ
jobs_of words set = job_count set.workers set.setting.doors

-- Connections were served: it was ready, which was written, as many jobs were started as there are, and all have ended.
pub record HasServed (words : List (List ℕ)) (before written : Option (List ℕ)) (started started' ended' : ℕ) : Type 0 where
  pub set : SetToServe words
  pub ready : Takes before ready_line written
  pub jobs : started' ≡ started + jobs_of words set
  pub all : ended' ≡ started'

-- A service ended by a fault: how far it came, and its line is written behind that.
pub record HasFailed (fault : ServeFault) (words : List (List ℕ)) (before written : Option (List ℕ)) (sink sink' started started' : ℕ) : Type 0 where
  pub set : SetToServe words
  pub so_far : Option (List ℕ)
  pub leaves : Leaves fault (jobs_of words set) before so_far started started'
  pub line : WritesPiece so_far (fault_line (service_fault fault)) written sink sink'

-- The counts by which a service's fault is shown: of places, of the edge, of the sink, and of the crew.
abbrev pub IsCaused : ServeFault → ℕ → ℕ → ℕ → ℕ → ℕ → ℕ → ℕ → ℕ → Type 0
IsCaused serving.Place places places' edge edge' sink sink' crew crew' = HasRisen places places'
IsCaused serving.Bind places places' edge edge' sink sink' crew crew' = HasRisen edge edge'
IsCaused serving.Write places places' edge edge' sink sink' crew crew' = HasRisen sink sink'
IsCaused serving.Start places places' edge edge' sink sink' crew crew' = HasRisen crew crew'
IsCaused serving.NoMemory places places' edge edge' sink sink' crew crew' = ⊤
