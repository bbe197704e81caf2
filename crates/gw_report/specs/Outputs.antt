-- What is given for an input: its text, and whether a line is refused.
use Rattle.std.specs.Prelude.{◌≡◌, ℕ, ℤ, Bool, List, length, filter, Option}
use Rattle.gw_link.specs.Moments.{TicksInTurn}
use Rattle.gw_store.specs.Lines.{lines_of}
use Rattle.gw_report.specs.EventLines.{LineResults, is_event_line, results_of}
use Rattle.gw_report.specs.RunText.{has_refused}

-- One moment for each line of the input that isn't blank, in turn: those that the clock tells, where it tells.
pub record HasMoments (input : List ℕ) (told : Option (List ℤ)) (moments : List ℤ) : Type 0 where
  pub after : Option (List ℤ)
  pub in_turn : TicksInTurn told moments after
  pub each : length moments ≡ length (filter is_event_line (lines_of input))

-- What is given for this input, which is read with one moment for each line of an event: the text by what came of its lines,
-- and whether one is refused.
pub record IsOutputBy (text_of : LineResults → List ℕ) (input : List ℕ) (told : Option (List ℤ)) (text : List ℕ) (refused : Bool) : Type 0 where
  pub moments : List ℤ
  pub one_each : HasMoments input told moments
  pub text_is : text ≡ text_of (results_of (lines_of input) moments)
  pub refused_is : refused ≡ has_refused input moments
