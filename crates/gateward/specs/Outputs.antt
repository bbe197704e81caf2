-- What the program writes of an input, and how it comes to its end.
use Rattle.std.specs.Prelude.{◌≡◌, ℕ, ℤ, List, [], ◌∷◌, ◌++◌, Bool, true, false, Option, fold}
use Rattle.gw_text.specs.model.Doors.{Door}
use Rattle.gw_command.specs.Starts.{Setting, Task, a_status, an_explanation, a_replay, a_generation, a_service}
use Rattle.gw_command.specs.Words.{GenerateWords, default_controller}
use Rattle.gw_generate.specs.Doors.{script_door}
use Rattle.gw_generate.specs.Scripts.{script_text}
use Rattle.gw_report.specs.Outputs.{IsOutputBy}
use Rattle.gw_report.specs.RunText.{status_results_text, explanation_results_text}
use Rattle.gw_replay.specs.Outputs.{IsReplayed}
use Rattle.gw_store.specs.Lines.{lines_of}
use Rattle.gw_replay.specs.declared.ending.Ending.{Ending}
use Rattle.gw_replay.specs.declared.ending.Ending.TheVariants.{Done, Place, Ahead}

-- All lines are done, whether one of them is refused or not.
abbrev pub IsDone : (Bool → Type 0) → Ending → Type 0
IsDone P (Done refused) = P refused
IsDone P Place = ⊥
IsDone P Ahead = ⊥

-- The later of two lines, unless it is empty.
abbrev pub later : List ℕ → List ℕ → List ℕ
later last [] = last
later last (b ∷ line) = b ∷ line

-- The last line of a text that isn't empty, with its line feed.
abbrev pub last_line : List ℕ → List ℕ
last_line text = fold later [] (lines_of text) ++ 10 ∷ []

-- A script that is replayed by one worker, at its own door, comes to this end: of what a replay prints this is the last line.
pub record IsRun (script : List ℕ) (told : Option (List ℤ)) (ending : Ending) (text : List ℕ) : Type 0 where
  pub whole : List ℕ
  pub replayed : IsReplayed (script_door ∷ []) default_controller 1 script told ending whole
  pub text_is : text ≡ last_line whole

-- The text of a script that is only written, or of its run.
abbrev pub IsWrittenOrRun : Bool → List ℕ → Option (List ℤ) → Ending → List ℕ → Type 0
IsWrittenOrRun false script told ending text = IsDone (λ refused. (text ≡ script) × (refused ≡ false)) ending
IsWrittenOrRun true script told ending text = IsRun script told ending text

-- What is written of the script that these words say.
abbrev pub IsGenerated : GenerateWords → Option (List ℤ) → Ending → List ℕ → Type 0
IsGenerated words told ending text = IsWrittenOrRun words.runs (script_text words.seed words.routes words.requests) told ending text

-- The text of a task that comes to this end, for this controller and these doors. A script alone can be given up, and who serves reads
-- no input, nor does who writes or runs a script of its own.
abbrev pub IsOutputOf : Task → List Door → List ℕ → List ℕ → Option (List ℤ) → Ending → List ℕ → Type 0
IsOutputOf a_status doors controller input told ending text =
    IsDone (λ refused. IsOutputBy (status_results_text doors controller) input told text refused) ending
IsOutputOf (an_explanation at q) doors controller input told ending text =
    IsDone (λ refused. IsOutputBy (explanation_results_text doors controller at q) input told text refused) ending
IsOutputOf (a_replay workers polled) doors controller input told ending text = IsReplayed doors controller workers input told ending text
IsOutputOf (a_generation words) doors controller input told ending text = ⊥
IsOutputOf (a_service workers conns admin polled) doors controller input told ending text = ⊥

-- The text by a setting, and how it comes to its end.
abbrev pub IsOutput : Setting → List ℕ → Option (List ℤ) → Ending → List ℕ → Type 0
IsOutput setting input told ending text = IsOutputOf setting.task setting.doors setting.controller input told ending text
