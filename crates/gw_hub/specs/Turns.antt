-- What comes of one turn at a hub.
use Rattle.std.specs.Prelude.{◌≡◌, ◌<◌, ◌≤◌, ◌+◌, ℕ, ℤ, List, [], ◌∷◌, length, filter, not, take, Result, Ok, Err}
use Rattle.gw_json.specs.declared.refusal.Refusal.{Refusal}
use Rattle.gw_json.specs.Words.{Fails}
use Rattle.gw_match.specs.model.Telling.{world_after}
use Rattle.gw_resolve.specs.declared.outcome.Outcome.{Outcome}
use Rattle.gw_snap.specs.Counts.{Rises}
use Rattle.gw_snap.specs.Lists.{Seen}
use Rattle.gw_store.specs.Events.{answer}
use Rattle.gw_store.specs.Lines.{is_blank, lines_of}
use Rattle.gw_store.specs.declared.event.Entry.{Entry}
use Rattle.gw_text.specs.model.Doors.{Door}
use Rattle.gw_hub.specs.Control.{Comes}
use Rattle.gw_hub.specs.declared.receipt.Receipt.{Receipt}
use Rattle.gw_hub.specs.declared.receipt.HubFault.{HubFault}
use Rattle.gw_hub.specs.declared.receipt.HubFault.TheVariants.{NoMemory, Held, Ahead}

-- The lines of an input that aren't blank.
abbrev pub event_lines : List ℕ → List (List ℕ)
event_lines input = filter (λ line. not (is_blank line)) (lines_of input)

-- What comes of a line at a moment over the changes before it: what its answer says, or a refusal, which changes nothing.
abbrev pub ComesOf : ℤ → List ℕ → Result Outcome Refusal → List Entry → List Entry → Type 0
ComesOf at line (Ok outcome) changes changes' = Comes (answer (world_after changes) line) at outcome changes changes'
ComesOf at line (Err refusal) changes changes' = Fails refusal (answer (world_after changes) line) × (changes' ≡ changes)

-- What comes of lines, each over the changes after those before it: an answer for each, and the changes after all of them.
abbrev pub ComeInTurn : ℤ → List (List ℕ) → List (Result Outcome Refusal) → List Entry → List Entry → Type 0
ComeInTurn at [] [] changes changes' = changes' ≡ changes
ComeInTurn at [] (answered ∷ answers) changes changes' = ⊥
ComeInTurn at (line ∷ lines) [] changes changes' = ⊥
ComeInTurn at (line ∷ lines) (answered ∷ answers) changes changes' =
    (next : List Entry) × (ComesOf at line answered changes next × ComeInTurn at lines answers next changes')

-- The receipt for an input that came at a moment, by the changes that a pass has seen then: over the first of them the lines lead to
-- those up to the front. So the accepted events stand there in the order of their lines, each once.
pub record IsReceipt (input : List ℕ) (at : ℤ) (receipt : Receipt) (seen : List Entry) : Type 0 where
  pub come : ComeInTurn at (event_lines input) receipt.answers.items (take receipt.first seen) (take receipt.front seen)
  pub counted : receipt.front ≡ receipt.first + receipt.accepted
  pub within : receipt.front ≤ length seen

-- A pass was found ahead of what is published, with the two fronts, which is counted.
pub record IsAhead (mine its : ℕ) (old new : Seen Entry (List Door × List ℕ)) : Type 0 where
  pub front : mine ≡ length old.seen
  pub above : its < mine
  pub counted : Rises old.ahead new.ahead
  pub seen : new.seen ≡ old.seen

-- Neither what a pass has seen nor how often it was ahead is another.
abbrev pub IsUntouched : Seen Entry (List Door × List ℕ) → Seen Entry (List Door × List ℕ) → Type 0
IsUntouched old new = (new.seen ≡ old.seen) × (new.ahead ≡ old.ahead)

-- So many of an input's lines were taken, from this place on, which is at least a pass's front.
pub record IsHeld (input : List ℕ) (at : ℤ) (first accepted : ℕ) (seen : List Entry) : Type 0 where
  pub answers : List (Result Outcome Refusal)
  pub changes : List Entry
  pub changes' : List Entry
  pub come : ComeInTurn at (event_lines input) answers changes changes'
  pub place : length changes ≡ first
  pub count : length changes' ≡ first + accepted
  pub within : length seen ≤ first

-- What a turn for an input leaves of its pass where it answers a fault.
abbrev pub LeavesAsFault : List ℕ → ℤ → HubFault → Seen Entry (List Door × List ℕ) → Seen Entry (List Door × List ℕ) → Type 0
LeavesAsFault input at NoMemory old new = IsUntouched old new
LeavesAsFault input at (Held first accepted) old new = IsUntouched old new × IsHeld input at first accepted old.seen
LeavesAsFault input at (Ahead mine its) old new = IsAhead mine its old new

-- The same of a turn without an input, which holds nothing.
abbrev pub LeavesWithoutInput : HubFault → Seen Entry (List Door × List ℕ) → Seen Entry (List Door × List ℕ) → Type 0
LeavesWithoutInput NoMemory old new = IsUntouched old new
LeavesWithoutInput (Held first accepted) old new = ⊥
LeavesWithoutInput (Ahead mine its) old new = IsAhead mine its old new

-- What such a turn leaves of the changes that its controller took.
abbrev pub KeepsChanges : HubFault → List Entry → List Entry → Type 0
KeepsChanges NoMemory old new = new ≡ old
KeepsChanges (Held first accepted) old new = (length old ≡ first) × (length new ≡ first + accepted)
KeepsChanges (Ahead mine its) old new = new ≡ old
