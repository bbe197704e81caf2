-- What comes of the lines of an input, each answered over the objects that stand after those before it.
use Rattle.std.specs.Prelude.{ℕ, ℤ, ◌+◌, List, [], ◌∷◌, ◌++◌, Bool, not, Option, filter, map, fold, Result, Ok, Err}
use Rattle.std.specs.List.{zip, enumerate_from}
use Rattle.gw_json.specs.declared.refusal.Refusal.{Refusal}
use Rattle.gw_json.specs.Refusals.{refusal_number, refusal_path}
use Rattle.gw_text.specs.model.Objects.{Change}
use Rattle.gw_text.specs.model.World.{world_of}
use Rattle.gw_store.specs.Events.{Read, a_change, is_skipped, answer}
use Rattle.gw_store.specs.Lines.{is_blank}

-- A line is one of an event unless it is blank.
abbrev pub is_event_line : List ℕ → Bool
is_event_line line = not (is_blank line)

-- A line of an event: its number in the input, from 1, its bytes, and the moment at which it comes.
pub record EventLine : Type 0 where
  pub number : ℕ
  pub line : List ℕ
  pub at : ℤ

-- A numbered line with its moment.
abbrev pub event_line_at : (ℕ × List ℕ) × ℤ → EventLine
event_line_at entry = record { number = entry.0.0; line = entry.0.1; at = entry.1 }

-- The lines of events, where the first line of all has this number. One moment belongs to each.
abbrev pub event_lines_from : ℕ → List (List ℕ) → List ℤ → List EventLine
event_lines_from first lines moments =
    map event_line_at (zip (filter (λ e. is_event_line e.1) (enumerate_from first lines)) moments)

-- A refused line: its number in the input, the refusal's number, and the path of the field that it names, if it names one.
pub record Refused : Type 0 where
  pub line : ℕ
  pub refusal : ℕ
  pub path : Option (List ℕ)

-- The line of this number, refused so.
abbrev pub refused_by : ℕ → Refusal → Refused
refused_by line e = record { line = line; refusal = refusal_number e; path = refusal_path e }

-- What came of some lines: the changes that were taken, the lines that were refused, and how many were skipped.
pub record LineResults : Type 0 where
  pub changes : List Change
  pub refused : List Refused
  pub skipped : ℕ

-- What comes of no line.
abbrev pub no_results : LineResults
no_results = record { changes = []; refused = []; skipped = 0 }

-- What comes of a line more, by its answer.
abbrev pub with_answer : LineResults → EventLine → Result Read Refusal → LineResults
with_answer r l (Ok (a_change event)) = record r { changes = r.changes ++ record { event = event; at = l.at } ∷ [] }
with_answer r l (Ok is_skipped) = record r { skipped = r.skipped + 1 }
with_answer r l (Err e) = record r { refused = r.refused ++ refused_by l.number e ∷ [] }

-- A line more, answered over the world of the changes so far.
abbrev pub with_line : LineResults → EventLine → LineResults
with_line r l = with_answer r l (answer (world_of r.changes) l.line)

-- What comes of lines, after what came of those before them.
abbrev pub results_after : LineResults → ℕ → List (List ℕ) → List ℤ → LineResults
results_after r first lines moments = fold with_line r (event_lines_from first lines moments)

-- What comes of all lines of an input.
abbrev pub results_of : List (List ℕ) → List ℤ → LineResults
results_of lines moments = results_after no_results 1 lines moments
