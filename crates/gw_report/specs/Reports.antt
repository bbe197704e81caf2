-- What the program keeps of the lines that it has read.
use Rattle.std.specs.Prelude.{◌≡◌, ℕ, ℤ, ◌+◌, List, ◌++◌, length, Option, Ok, filter, string_bytes}
use Rattle.gw_json.specs.declared.refusal.Refusal.{Refusal}
use Rattle.gw_json.specs.declared.refusal.Refusal.TheVariants.{NoMemory}
use Rattle.gw_json.specs.Lines.{line_of}
use Rattle.gw_link.specs.Moments.{TicksInTurn}
use Rattle.gw_text.specs.model.World.{World, world_of, apply}
use Rattle.gw_store.specs.Events.{Read, a_change, is_skipped, answer}
use Rattle.gw_report.specs.EventLines.{LineResults, is_event_line, refused_by, results_after, results_of}
use Rattle.gw_report.specs.RunText.{refused_data, refused_text}
use Rattle.gw_report.specs.declared.report.Report.{Report}

-- The report tells what came of some lines.
pub record Tells (results : LineResults) (report : Report) : Type 0 where
  pub world : report.world.world ≡ world_of results.changes
  pub text : string_bytes report.text ≡ refused_text results.refused
  pub refused : report.refused ≡ length results.refused
  pub skipped : report.skipped ≡ results.skipped

-- From one report to another by these lines, the clock being read once before each that isn't blank.
pub record Applies (first : ℕ) (lines : List (List ℕ)) (before after : Option (List ℤ)) (old new : Report) : Type 0 where
  pub moments : List ℤ
  pub in_turn : TicksInTurn before moments after
  pub each : length moments ≡ length (filter is_event_line lines)
  pub tells : (results : LineResults) → Tells results old → Tells (results_after results first lines moments) new

-- The report of all these lines.
pub record IsReport (lines : List (List ℕ)) (before after : Option (List ℤ)) (report : Report) : Type 0 where
  pub moments : List ℤ
  pub in_turn : TicksInTurn before moments after
  pub each : length moments ≡ length (filter is_event_line lines)
  pub tells : Tells (results_of lines moments) report

-- The world after what was read.
abbrev pub world_with : World → ℤ → Read → World
world_with w at (a_change event) = apply w (record { event = event; at = at })
world_with w at is_skipped = w

-- How many lines more are skipped.
abbrev pub skips : Read → ℕ
skips (a_change event) = 0
skips is_skipped = 1

-- A line that is taken: a change, or one that is skipped.
pub record Takes (line : List ℕ) (at : ℤ) (old new : Report) : Type 0 where
  pub read : Read
  pub is : answer old.world.world line ≡ Ok read
  pub world : new.world.world ≡ world_with old.world.world at read
  pub skipped : new.skipped ≡ old.skipped + skips read

-- The line of this number is refused: it is printed and counted, and the world stays.
pub record Refuses (number : ℕ) (e : Refusal) (old new : Report) : Type 0 where
  pub named : e ≡ NoMemory → ⊥
  pub text : string_bytes new.text ≡ string_bytes old.text ++ line_of (refused_data (refused_by number e))
  pub refused : new.refused ≡ old.refused + 1
  pub world : new.world.world ≡ old.world.world
  pub skipped : new.skipped ≡ old.skipped
