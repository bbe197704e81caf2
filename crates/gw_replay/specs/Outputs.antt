-- What a script's input gives.
use Rattle.std.specs.Prelude.{◌≡◌, ◌⊎◌, ◌<◌, ◌≤◌, ℕ, ℤ, List, [], ◌∷◌, ◌++◌, length, Bool, nat_lt, Option}
use Rattle.gw_json.specs.Lines.{line_of}
use Rattle.gw_link.specs.Faults.{HasRisen}
use Rattle.gw_link.specs.Moments.{TicksInTurn}
use Rattle.gw_script.specs.Scripts.{step_of}
use Rattle.gw_snap.specs.Counts.{Counts}
use Rattle.gw_store.specs.Lines.{lines_of}
use Rattle.gw_text.specs.model.Doors.{Door}
use Rattle.gw_replay.specs.Lines.{ahead_data, place_data}
use Rattle.gw_replay.specs.Replays.{Runs, SendsOn, State, beginning, totals_text}
use Rattle.gw_replay.specs.declared.ending.Ending.{Ending}
use Rattle.gw_replay.specs.declared.ending.Ending.TheVariants.{Done, Place, Ahead}

-- The text of a script that so many workers serve, at these moments, one for each event in turn, and whether a line of it is refused.
pub record IsReplayAt (doors : List Door) (controller : List ℕ) (workers : ℕ) (input : List ℕ) (moments : List ℤ) (text : List ℕ) (refused : Bool) : Type 0 where
  pub last : State
  pub lines : List ℕ
  pub runs : Runs (record { doors = doors; controller = controller }) 1 (lines_of input) moments (beginning workers) last lines
  pub text_is : text ≡ lines ++ totals_text last
  pub refused_is : refused ≡ nat_lt 0 last.refused

-- The same, where the clock is read once for each event, in turn.
pub record IsReplay (doors : List Door) (controller : List ℕ) (workers : ℕ) (input : List ℕ) (told : Option (List ℤ)) (text : List ℕ) (refused : Bool) : Type 0 where
  pub moments : List ℤ
  pub after : Option (List ℤ)
  pub in_turn : TicksInTurn told moments after
  pub replay : IsReplayAt doors controller workers input moments text refused

-- A script is given up at a line that sends on an open connection: this is the text of the lines before it, and what stands then.
pub record IsFrontOf (doors : List Door) (controller : List ℕ) (workers : ℕ) (input : List ℕ) (told : Option (List ℤ)) (text : List ℕ) : Type 0 where
  pub first : List (List ℕ)
  pub line : List ℕ
  pub others : List (List ℕ)
  pub lines_are : lines_of input ≡ first ++ line ∷ others
  pub moments : List ℤ
  pub after : Option (List ℤ)
  pub in_turn : TicksInTurn told moments after
  pub last : State
  pub runs : Runs (record { doors = doors; controller = controller }) 1 first moments (beginning workers) last text
  pub sends : SendsOn (step_of (length last.workers) (length doors) line) last.clients

-- There was no place to read from: before the first line, or at a line.
pub record IsUnplaced (doors : List Door) (controller : List ℕ) (workers : ℕ) (input : List ℕ) (told : Option (List ℤ)) (text : List ℕ) : Type 0 where
  pub front : List ℕ
  pub is_front : (front ≡ []) ⊎ IsFrontOf doors controller workers input told front
  pub text_is : text ≡ front ++ line_of place_data

-- The worker of a line had seen so many changes, more than are published.
pub record IsAhead (doors : List Door) (controller : List ℕ) (workers : ℕ) (input : List ℕ) (told : Option (List ℤ)) (text : List ℕ) : Type 0 where
  pub front : List ℕ
  pub seen : ℕ
  pub is_front : IsFrontOf doors controller workers input told front
  pub above : length is_front.last.published < seen
  pub text_is : text ≡ front ++ line_of (ahead_data (length is_front.last.published) seen)

-- The text of a script that came to this end. Where it was given up, the text of the lines before stands before the last line.
abbrev pub IsReplayed : List Door → List ℕ → ℕ → List ℕ → Option (List ℤ) → Ending → List ℕ → Type 0
IsReplayed doors controller workers input told (Done refused) text = IsReplay doors controller workers input told text refused
IsReplayed doors controller workers input told Place text = IsUnplaced doors controller workers input told text
IsReplayed doors controller workers input told Ahead text = IsAhead doors controller workers input told text

-- Each of the two counts is as before, or has risen with its cause.
abbrev pub AreCounted : Ending → Counts → Counts → Type 0
AreCounted (Done refused) before now = now ≡ before
AreCounted Place before now = HasRisen before.places now.places × (before.ahead ≤ now.ahead)
AreCounted Ahead before now = HasRisen before.ahead now.ahead × (before.places ≤ now.places)
