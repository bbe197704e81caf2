-- What a run that writes a script, or runs it, comes to.
use Rattle.std.proofs.Common.{◌≡◌, ◌∙◌, ◌<◌, Bool, ℕ, ℤ, arith, List, Option, Ok, Err, inl, inr, refl, sym, subst}
use Rattle.gw_command.specs.Faults.{exit_code}
use Rattle.gw_command.specs.Starts.{IsGeneration, IsStart, Setting, Starts, a_generation, a_service}
use Rattle.gw_command.specs.Words.{GenerateWords}
use Rattle.gw_command.specs.declared.fault.Fault.{Fault}
use Rattle.gw_command.specs.declared.fault.Fault.TheVariants.{Usage, ReadFailed, WriteFailed, TooManyDoors, TwoAddresses, DoorTwice, NotBound, NotStarted, NoPlace, NoMemory, TooLong}
use Rattle.gw_command.proofs.Starting.{starts_unique}
use Rattle.gw_replay.specs.Outputs.{AreCounted}
use Rattle.gw_replay.specs.declared.ending.Ending.{Ending}
use Rattle.gw_replay.specs.declared.ending.Ending.TheVariants.{Done, Place, Ahead}
use Rattle.gw_snap.specs.Counts.{Counts}
use Rattle.gw_text.specs.model.Addresses.{Socket}
use Rattle.gateward.specs.Runs.{Finishes, Generates, HasEnded, SetToGenerate, SetToServe}
use Rattle.gateward.proofs.Running.{of_bool}

-- a text that was written, or whose script was given up
pub finished : (code : ℕ) (ending : Ending) (text : List ℕ) (before written : Option (List ℕ)) (faults faults' : ℕ) (snap snap' : Counts)
    → AreCounted ending snap snap' → Finishes code ending text before written faults faults' → HasEnded code faults faults' snap snap'
finished code (Done refused) text before written faults faults' snap snap' counted (inl done) =
    let small : code < 2 = subst (λ (n : ℕ). n < 2) (sym done.0) (of_bool refused) in
    record {
      exits = inl small;
      uncounted = λ few. counted;
      place = λ five. absurd (omega (arith, small, five));
      above = λ eight. absurd (omega (arith, small, eight));
      failed = λ four. absurd (omega (arith, small, four));
      others = (λ n. omega (arith, small, n), λ n. omega (arith, small, n), λ n. omega (arith, small, n));
      complete = λ sink places ahead. inl small;
    }
finished code (Done refused) text before written faults faults' snap snap' counted (inr failed) = record {
  exits = inr (inr (WriteFailed, failed.0));
  uncounted = λ few. counted;
  place = λ five. absurd (omega (arith, failed.0, five));
  above = λ eight. absurd (omega (arith, failed.0, eight));
  failed = λ four. failed.1;
  others = (λ n. omega (arith, failed.0, n), λ n. omega (arith, failed.0, n), λ n. omega (arith, failed.0, n));
  complete = λ sink places ahead. absurd (sink failed.1);
}
finished code Place text before written faults faults' snap snap' counted done = record {
  exits = inr (inr (TooManyDoors, done.0));
  uncounted = λ few. absurd (omega (arith, done.0, few));
  place = λ five. counted.0;
  above = λ eight. absurd (omega (arith, done.0, eight));
  failed = λ four. absurd (omega (arith, done.0, four));
  others = (λ n. omega (arith, done.0, n), λ n. omega (arith, done.0, n), λ n. omega (arith, done.0, n));
  complete = λ sink places ahead. absurd (places counted.0);
}
finished code Ahead text before written faults faults' snap snap' counted done = record {
  exits = inr (inl done.0);
  uncounted = λ few. absurd (omega (arith, done.0, few));
  place = λ five. absurd (omega (arith, done.0, five));
  above = λ eight. counted.0;
  failed = λ four. absurd (omega (arith, done.0, four));
  others = (λ n. omega (arith, done.0, n), λ n. omega (arith, done.0, n), λ n. omega (arith, done.0, n));
  complete = λ sink places ahead. absurd (ahead counted.0);
}

-- memory was wanting
pub starved : (code : ℕ) (faults faults' : ℕ) (snap snap' : Counts) → code ≡ exit_code NoMemory → HasEnded code faults faults' snap snap'
starved code faults faults' snap snap' six = record {
  exits = inr (inr (NoMemory, six));
  uncounted = λ few. absurd (omega (arith, six, few));
  place = λ five. absurd (omega (arith, six, five));
  above = λ eight. absurd (omega (arith, six, eight));
  failed = λ four. absurd (omega (arith, six, four));
  others = (λ n. omega (arith, six, n), λ n. omega (arith, six, n), λ n. omega (arith, six, n));
  complete = λ sink places ahead. inr six;
}

module _ (words : List (List ℕ)) (setting : Setting) (start : Starts words (Ok setting)) where
  same_setting : (other : Setting) → Starts words (Ok other) → other ≡ setting
  same_setting other also = cc (starts_unique words (Ok other) (Ok setting) also start)

  task_of : (set : SetToGenerate words) → setting.task ≡ a_generation set.generation
  task_of set = subst (λ (s : Setting). s.task ≡ a_generation set.generation) (same_setting set.setting set.start) set.task

  -- the words of a script
  pub set_to_generate : (generation : GenerateWords) → setting.task ≡ a_generation generation → SetToGenerate words
  set_to_generate generation task = record { setting = setting; generation = generation; start = start; task = task }

  -- they say one script
  pub of_generation : (set : SetToGenerate words) (generation : GenerateWords) (code : ℕ) (told : Option (List ℤ)) (before written : Option (List ℕ)) (faults faults' : ℕ)
      → setting.task ≡ a_generation generation → Generates code generation told before written faults faults' → Generates code set.generation told before written faults faults'
  of_generation set generation code told before written faults faults' task is =
      let same : a_generation set.generation ≡ a_generation generation = sym (task_of set) ∙ task in
      let one : set.generation ≡ generation = cc in
      subst (λ (g : GenerateWords). Generates code g told before written faults faults') (sym one) is

  -- who serves writes no script
  pub no_service : (generation : GenerateWords) → setting.task ≡ a_generation generation → SetToServe words → ⊥
  no_service generation task set =
      let serves : setting.task ≡ a_service set.workers set.conns set.admin set.polled = subst (λ (s : Setting). s.task ≡ a_service set.workers set.conns set.admin set.polled) (same_setting set.setting set.start) set.task in
      let same : a_generation generation ≡ a_service set.workers set.conns set.admin set.polled = sym task ∙ serves in
      cc

  pub serves_instead : (workers : ℕ) (conns : Option ℕ) (admin : Socket) (polled : Bool) → setting.task ≡ a_service workers conns admin polled → SetToGenerate words → ⊥
  serves_instead workers conns admin polled task set =
      let same : a_generation set.generation ≡ a_service workers conns admin polled = sym (task_of set) ∙ task in
      cc

  -- nor does another command
  pub no_generation : (IsGeneration setting.task → ⊥) → SetToGenerate words → ⊥
  no_generation none set = none (subst IsGeneration (sym (task_of set)) tt)

-- words with a fault write none either
at_fault : (words : List (List ℕ)) (fault : Fault) → Starts words (Err fault) → SetToGenerate words → ⊥
at_fault words fault start set = cc (starts_unique words (Ok set.setting) (Err fault) set.start start)

pub starved_at_start : (words : List (List ℕ)) (fault : Fault) → IsStart words (Err fault) → SetToGenerate words → exit_code fault ≡ exit_code NoMemory
starved_at_start words Usage start set = absurd (at_fault words Usage start set)
starved_at_start words ReadFailed start set = absurd (at_fault words ReadFailed start set)
starved_at_start words WriteFailed start set = absurd (at_fault words WriteFailed start set)
starved_at_start words TooManyDoors start set = absurd (at_fault words TooManyDoors start set)
starved_at_start words TwoAddresses start set = absurd (at_fault words TwoAddresses start set)
starved_at_start words DoorTwice start set = absurd (at_fault words DoorTwice start set)
starved_at_start words NotBound start set = absurd (at_fault words NotBound start set)
starved_at_start words NotStarted start set = absurd (at_fault words NotStarted start set)
starved_at_start words NoPlace start set = absurd (at_fault words NoPlace start set)
starved_at_start words NoMemory start set = refl
starved_at_start words TooLong start set = absurd (at_fault words TooLong start set)
