-- What a run wrote of the input that it read.
use Rattle.std.proofs.Common.{◌≡◌, ◌∙◌, ℕ, ℤ, ◌<◌, ◌++◌, Bool, true, false, List, [], Option, Some, None, Ok, inl, inr, sym, ap, arith, subst, if◌then◌else◌, unwrap_or, IfSome, append-nil}
use Rattle.gw_link.specs.Faults.{HasRisen}
use Rattle.gw_link.specs.Pieces.{Gives, IsAtEnd, Takes, TakesPart}
use Rattle.gw_command.specs.Faults.{exit_code}
use Rattle.gateward.specs.Outputs.{IsOutput}
use Rattle.gateward.specs.Runs.{Finishes, GivesUp, IsExit, WritesFront, WritesPiece, WritesText, code_of}
use Rattle.gw_command.specs.Starts.{Setting, Starts}
use Rattle.gw_command.specs.declared.fault.Fault.TheVariants.{TooManyDoors, WriteFailed}
use Rattle.gw_replay.specs.Outputs.{AreCounted}
use Rattle.gw_replay.specs.declared.ending.Ending.{Ending}
use Rattle.gw_replay.specs.declared.ending.Ending.TheVariants.{Done, Place, Ahead}
use Rattle.gw_snap.specs.Counts.{Counts}

-- all that was left was read
read_whole : (left after : Option (List ℕ)) (items : List ℕ) → Gives left items after → IsAtEnd after → IfSome left (λ input. (items ≡ input) × (after ≡ Some []))
read_whole None after items gives end = record {}
read_whole (Some input) None items gives end = cc
read_whole (Some input) (Some rest) items gives end =
    (sym (append-nil items) ∙ ap (λ more. items ++ more) (sym end) ∙ sym (ap (λ (o : Option (List ℕ)). unwrap_or o []) gives), ap (λ (xs : List ℕ). Some xs) end)

-- what is so at an end that gives up, of an input that is told
gives_up : (ending : Ending) (words : List (List ℕ)) (setting : Setting) (items text : List ℕ) (told : Option (List ℤ)) (left after before written : Option (List ℕ)) (faults faults' : ℕ)
    → Starts words (Ok setting) → IsOutput setting items told ending text → WritesPiece before text written faults faults' → (l : Option (List ℕ)) → IfSome l (λ input. (items ≡ input) × (after ≡ Some []))
    → IfSome l (λ input. GivesUp ending words input told after before written faults faults')
gives_up ending words setting items text told left after before written faults faults' start is takes None all = record {}
gives_up ending words setting items text told left after before written faults faults' start is takes (Some input) all =
    rw (← all.0) (record { setting = setting; start = start; text = text; output = is; read = all.1; takes = takes })

writes_text : (code : ℕ) (words : List (List ℕ)) (setting : Setting) (items text : List ℕ) (refused : Bool) (told : Option (List ℤ)) (after before written : Option (List ℕ))
    → Starts words (Ok setting) → IsOutput setting items told (Done refused) text → Takes before text written → code ≡ code_of (Done refused) → (l : Option (List ℕ)) → IfSome l (λ input. (items ≡ input) × (after ≡ Some []))
    → IfSome l (λ input. WritesText code words input told after before written)
writes_text code words setting items text refused told after before written start is takes ends None all = record {}
writes_text code words setting items text refused told after before written start is takes ends (Some input) all =
    rw (← all.0) (record { setting = setting; start = start; text = text; refused = refused; output = is; read = all.1; takes = takes; ends = ends })

writes_front : (words : List (List ℕ)) (setting : Setting) (items text : List ℕ) (refused : Bool) (told : Option (List ℤ)) (after before written : Option (List ℕ))
    → Starts words (Ok setting) → IsOutput setting items told (Done refused) text → TakesPart before text written → (l : Option (List ℕ)) → IfSome l (λ input. (items ≡ input) × (after ≡ Some []))
    → IfSome l (λ input. WritesFront words input told before written)
writes_front words setting items text refused told after before written start is takes None all = record {}
writes_front words setting items text refused told after before written start is takes (Some input) all =
    rw (← all.0) (record { setting = setting; start = start; text = text; refused = refused; output = is; takes = takes })

-- what a run that wrote a text comes to
pub record Ended (code : ℕ) (words : List (List ℕ)) (told : Option (List ℤ)) (left after before written : Option (List ℕ)) (faults faults' : ℕ) (snap snap' : Counts) : Type 0 where
  pub text : code < 2 → IfSome left (λ input. WritesText code words input told after before written)
  pub uncounted : code < 2 → snap' ≡ snap
  pub place : code ≡ code_of Place → HasRisen snap.places snap'.places × IfSome left (λ input. GivesUp Place words input told after before written faults faults')
  pub above : code ≡ code_of Ahead → HasRisen snap.ahead snap'.ahead × IfSome left (λ input. GivesUp Ahead words input told after before written faults faults')
  pub front : code ≡ exit_code WriteFailed → HasRisen faults faults' × IfSome left (λ input. WritesFront words input told before written)
  pub exits : IsExit code
  pub few : (code ≡ 2 → ⊥) × (code ≡ 3 → ⊥) × (code ≡ 6 → ⊥) × (code ≡ 7 → ⊥)
  pub complete : (HasRisen faults faults' → ⊥) → (HasRisen snap.places snap'.places → ⊥) → (HasRisen snap.ahead snap'.ahead → ⊥) → code < 2

pub of_bool : (b : Bool) → (if b then 1 else 0) < 2
of_bool true = omega arith
of_bool false = omega arith

module _ (words : List (List ℕ)) (setting : Setting) (start : Starts words (Ok setting)) (items : List ℕ) (told : Option (List ℤ)) (left after before written : Option (List ℕ)) (faults faults' : ℕ) (snap snap' : Counts)
    (gives : Gives left items after) (end : IsAtEnd after) where
  all : IfSome left (λ input. (items ≡ input) × (after ≡ Some []))
  all = read_whole left after items gives end

  pub ended : (code : ℕ) (ending : Ending) (text : List ℕ) → IsOutput setting items told ending text → AreCounted ending snap snap' → Finishes code ending text before written faults faults'
      → Ended code words told left after before written faults faults' snap snap'
  ended code (Done refused) text is counted (inl done) =
      let small : code < 2 = subst (λ (n : ℕ). n < 2) (sym done.0) (of_bool refused) in
      record {
        text = λ few. writes_text code words setting items text refused told after before written start is done.1 done.0 left all;
        uncounted = λ few. counted;
        place = λ five. absurd (omega (arith, small, five));
        above = λ eight. absurd (omega (arith, small, eight));
        front = λ four. absurd (omega (arith, small, four));
        exits = inl small;
        few = (λ n. omega (arith, small, n), λ n. omega (arith, small, n), λ n. omega (arith, small, n), λ n. omega (arith, small, n));
        complete = λ sink places ahead. small;
      }
  ended code (Done refused) text is counted (inr failed) = record {
    text = λ few. absurd (omega (arith, failed.0, few));
    uncounted = λ few. counted;
    place = λ five. absurd (omega (arith, failed.0, five));
    above = λ eight. absurd (omega (arith, failed.0, eight));
    front = λ four. (failed.1, writes_front words setting items text refused told after before written start is failed.2 left all);
    exits = inr (inr (WriteFailed, failed.0));
    few = (λ n. omega (arith, failed.0, n), λ n. omega (arith, failed.0, n), λ n. omega (arith, failed.0, n), λ n. omega (arith, failed.0, n));
    complete = λ sink places ahead. absurd (sink failed.1);
  }
  ended code Place text is counted done = record {
    text = λ few. absurd (omega (arith, done.0, few));
    uncounted = λ few. absurd (omega (arith, done.0, few));
    place = λ five. (counted.0, gives_up Place words setting items text told left after before written faults faults' start is done.1 left all);
    above = λ eight. absurd (omega (arith, done.0, eight));
    front = λ four. absurd (omega (arith, done.0, four));
    exits = inr (inr (TooManyDoors, done.0));
    few = (λ n. omega (arith, done.0, n), λ n. omega (arith, done.0, n), λ n. omega (arith, done.0, n), λ n. omega (arith, done.0, n));
    complete = λ sink places ahead. absurd (places counted.0);
  }
  ended code Ahead text is counted done = record {
    text = λ few. absurd (omega (arith, done.0, few));
    uncounted = λ few. absurd (omega (arith, done.0, few));
    place = λ five. absurd (omega (arith, done.0, five));
    above = λ eight. (counted.0, gives_up Ahead words setting items text told left after before written faults faults' start is done.1 left all);
    front = λ four. absurd (omega (arith, done.0, four));
    exits = inr (inl done.0);
    few = (λ n. omega (arith, done.0, n), λ n. omega (arith, done.0, n), λ n. omega (arith, done.0, n), λ n. omega (arith, done.0, n));
    complete = λ sink places ahead. absurd (ahead counted.0);
  }
