-- The step of a line that is no event's and within the limit.
use Rattle.std.proofs.Common.{◌≡◌, ℕ, ◌≤◌, Bool, true, false, List, length, Result, Ok, Err, refl}
use Rattle.std.specs.Str.{is_utf8, IsUtf8}
use Rattle.std.proofs.lemmas.Bool.{le-ltb}
use Rattle.std.proofs.lemmas.Str.{IsUtf8-from_is_utf8, is_utf8-from_IsUtf8}
use Rattle.gw_json.specs.Lines.{max_line}
use Rattle.gw_script.specs.Readings.{Reads, IsStep}
use Rattle.gw_script.specs.Scripts.{is_event, form_of, step_of}
use Rattle.gw_script.specs.Seen.{seen_step}
use Rattle.gw_script.specs.declared.step.Step.{Step}
use Rattle.gw_script.specs.declared.refusal.StepRefusal.{StepRefusal}
use Rattle.gw_script.specs.declared.refusal.StepRefusal.TheVariants.{NotStep, TooLong, NoMemory}

not_utf8 : (line : List ℕ) → (IsUtf8 line → ⊥) → is_utf8 line ≡ false
not_utf8 line other = go (is_utf8 line) refl
  where
    go : (t : Bool) → is_utf8 line ≡ t → t ≡ false
    go true e = absurd (other (IsUtf8-from_is_utf8 line e))
    go false e = refl

module _ (workers doors : ℕ) (line : List ℕ) (event : is_event line ≡ false) (short : length line ≤ max_line) where
  -- one that is text says what its form says
  pub text_step : (result : Result Step StepRefusal) → IsUtf8 line → Reads seen_step (form_of workers doors line) result → IsStep (step_of workers doors line) result
  unfolding step_of
  text_step (Ok step) utf8 read = rw (event, le-ltb max_line (length line) short, is_utf8-from_IsUtf8 line utf8, read) refl
  text_step (Err NotStep) utf8 read = rw (event, le-ltb max_line (length line) short, is_utf8-from_IsUtf8 line utf8, read) refl
  text_step (Err TooLong) utf8 read = absurd read
  text_step (Err NoMemory) utf8 read = tt

  -- one that isn't says none
  pub other_step : (IsUtf8 line → ⊥) → step_of workers doors line ≡ Err NotStep
  unfolding step_of
  other_step other = rw (event, le-ltb max_line (length line) short, not_utf8 line other) refl
