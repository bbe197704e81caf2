-- A script has one text.
use Rattle.std.proofs.Common.{◌≡◌, ℕ, ℤ, ◌+◌, ◌≤◌, Bool, true, false, List, [], ◌∷◌, ◌++◌, length, nat_lt, arith, append_assoc, length-append, refl, sym, ap, ap₂, ◌∙◌, subst, subst₂, Option, Some, Result, Ok, Err}
use Rattle.gw_link.specs.Moments.{TicksInTurn}
use Rattle.gw_replay.specs.Outputs.{IsReplay, IsReplayAt}
use Rattle.gw_replay.specs.Replays.{LineDone, Runs, SaidDone, Site, State, StepDone, beginning}
use Rattle.gw_store.specs.Lines.{is_blank, lines_of}
use Rattle.gw_script.specs.Scripts.{step_of as said_step}
use Rattle.gw_script.specs.Steps.{Step, an_event, a_publication, a_beginning, a_sending, an_end, an_answer, a_failure}
use Rattle.gw_script.specs.declared.refusal.StepRefusal.{StepRefusal}
use Rattle.gw_text.specs.model.Doors.{Door}
use Rattle.gw_replay_laws.proofs.States.{Alike, same_totals}
use Rattle.gw_replay_laws.proofs.Steps.{SameLine, same_line}

regrouped : (here later more here₂ later₂ more₂ moments moments₂ : List ℤ) → moments ≡ here ++ later → moments₂ ≡ here₂ ++ later₂
    → moments ++ more ≡ moments₂ ++ more₂ → here ++ (later ++ more) ≡ here₂ ++ (later₂ ++ more₂)
regrouped here later more here₂ later₂ more₂ moments moments₂ a b e =
    sym (append_assoc here later more) ∙ sym (ap (λ list. list ++ more) a) ∙ e ∙ ap (λ list. list ++ more₂) b ∙ append_assoc here₂ later₂ more₂

-- lines do alike, and as many moments are left behind them
same_runs : (site : Site) (line : ℕ) (lines : List (List ℕ)) (moments moments₂ more more₂ : List ℤ) (s s' t t' : State) (text text₂ : List ℕ) → Alike s t
    → moments ++ more ≡ moments₂ ++ more₂ → Runs site line lines moments s s' text → Runs site line lines moments₂ t t' text₂
    → SameLine more more₂ s' t' text text₂
same_runs site line [] moments moments₂ more more₂ s s' t t' text text₂ same e x y = record {
  moments = sym (ap (λ list. list ++ more) x.0) ∙ e ∙ ap (λ list. list ++ more₂) y.0;
  done = record { state = subst₂ Alike (sym x.1) (sym y.1) same; text_is = x.2 ∙ sym y.2 };
}
same_runs site line (bytes ∷ lines) moments moments₂ more more₂ s s' t t' text text₂ same e x y =
    let f = x.1.1.1.1.1 in
    let g = y.1.1.1.1.1 in
    let here : SameLine (x.1.0 ++ more) (y.1.0 ++ more₂) x.1.1.0 y.1.1.0 x.1.1.1.0 y.1.1.1.0 =
    same_line (is_blank bytes) site line bytes x.0 y.0 (x.1.0 ++ more) (y.1.0 ++ more₂) s x.1.1.0 t y.1.1.0 x.1.1.1.0 y.1.1.1.0 same
    (regrouped x.0 x.1.0 more y.0 y.1.0 more₂ moments moments₂ f.0 g.0 e) f.2 g.2 in
    let later : SameLine more more₂ s' t' x.1.1.1.1.0 y.1.1.1.1.0 =
    same_runs site (line + 1) lines x.1.0 y.1.0 more more₂ x.1.1.0 s' y.1.1.0 t' x.1.1.1.1.0 y.1.1.1.1.0 here.done.state here.moments f.3 g.3 in
    record {
      moments = later.moments;
      done = record {
        state = later.done.state;
        text_is = f.1 ∙ ap₂ (λ (a b : List ℕ). a ++ b) here.done.text_is later.done.text_is ∙ sym g.1;
      };
    }

alike_itself : (s : State) → Alike s s
alike_itself s =
    record { changes = refl; published = refl; workers = refl; clients = λ name. refl; orders = refl; statuses = refl; refused = refl; skipped = refl }

same_replays : (doors : List Door) (controller : List ℕ) (workers : ℕ) (input : List ℕ) (moments moments₂ more more₂ : List ℤ) (text text₂ : List ℕ) (refused refused₂ : Bool)
    → moments ++ more ≡ moments₂ ++ more₂
    → IsReplayAt doors controller workers input moments text refused → IsReplayAt doors controller workers input moments₂ text₂ refused₂
    → (text ≡ text₂) × (refused ≡ refused₂)
same_replays doors controller workers input moments moments₂ more more₂ text text₂ refused refused₂ e x y =
    let site : Site = record { doors = doors; controller = controller } in
    let same : SameLine more more₂ x.last y.last x.lines y.lines =
    same_runs site 1 (lines_of input) moments moments₂ more more₂ (beginning workers) x.last (beginning workers) y.last x.lines y.lines
    (alike_itself (beginning workers)) e x.runs y.runs in (
      x.text_is ∙ ap₂ (λ (a b : List ℕ). a ++ b) same.done.text_is (same_totals x.last y.last same.done.state) ∙ sym y.text_is,
      x.refused_is ∙ ap (nat_lt 0) same.done.state.refused ∙ sym y.refused_is,
    )

pub text_unique : (doors : List Door) (controller : List ℕ) (workers : ℕ) (input : List ℕ) (moments : List ℤ) (text text₂ : List ℕ) (refused refused₂ : Bool)
    → IsReplayAt doors controller workers input moments text refused → IsReplayAt doors controller workers input moments text₂ refused₂
    → (text ≡ text₂) × (refused ≡ refused₂)
text_unique doors controller workers input moments text text₂ refused refused₂ x y =
    same_replays doors controller workers input moments moments [] [] text text₂ refused refused₂ refl x y

-- a line takes one moment at most
none_is_few : (here : List ℤ) → here ≡ [] → length here ≤ 1
none_is_few here e = omega (arith, ap length e)

one_is_few : (here : List ℤ) (at : ℤ) → here ≡ at ∷ [] → length here ≤ 1
one_is_few here at e = omega (arith, ap length e)

step_takes : (site : Site) (line : ℕ) (step : Step) (here : List ℤ) (s s' : State) (text : List ℕ) → StepDone site line step here s s' text → length here ≤ 1
step_takes site line (an_event bytes) here s s' text x = one_is_few here x.0 x.1.0
step_takes site line a_publication here s s' text x = none_is_few here x.0
step_takes site line (a_beginning name worker door) here s s' text x = none_is_few here x.0
step_takes site line (a_sending name bytes) here s s' text x = none_is_few here x.0
step_takes site line (an_end name) here s s' text x = none_is_few here x.0
step_takes site line (an_answer socket bytes fill) here s s' text x = none_is_few here x.0
step_takes site line (a_failure socket call) here s s' text x = none_is_few here x.0

said_takes : (site : Site) (line : ℕ) (said : Result Step StepRefusal) (here : List ℤ) (s s' : State) (text : List ℕ) → SaidDone site line said here s s' text
    → length here ≤ 1
said_takes site line (Ok step) here s s' text x = step_takes site line step here s s' text x
said_takes site line (Err why) here s s' text x = none_is_few here x.0

line_takes : (blank : Bool) (site : Site) (line : ℕ) (bytes : List ℕ) (here : List ℤ) (s s' : State) (text : List ℕ) → LineDone blank site line bytes here s s' text
    → length here ≤ 1
line_takes true site line bytes here s s' text x = none_is_few here x.0
line_takes false site line bytes here s s' text x = said_takes site line (said_step (length s.workers) (length site.doors) bytes) here s s' text x

taken : (moments here later : List ℤ) (count : ℕ) → moments ≡ here ++ later → length here ≤ 1 → length later ≤ count → length moments ≤ count + 1
taken moments here later count e a b = omega (arith, ap length e, length-append here later, a, b)

lines_take : (site : Site) (line : ℕ) (lines : List (List ℕ)) (moments : List ℤ) (s s' : State) (text : List ℕ) → Runs site line lines moments s s' text
    → length moments ≤ length lines
lines_take site line [] moments s s' text x = omega (arith, ap length x.0)
lines_take site line (bytes ∷ lines) moments s s' text x =
    let f = x.1.1.1.1.1 in
    let first : length x.0 ≤ 1 = line_takes (is_blank bytes) site line bytes x.0 s x.1.1.0 x.1.1.1.0 f.2 in
    let others : length x.1.0 ≤ length lines = lines_take site (line + 1) lines x.1.0 x.1.1.0 s' x.1.1.1.1.0 f.3 in
    let all : length moments ≤ length lines + 1 = taken moments x.0 x.1.0 (length lines) f.0 first others in
    omega (arith, all)

-- a clock that tells moments enough gave the first of them
first_told : (told moments : List ℤ) (after : Option (List ℤ)) → TicksInTurn (Some told) moments after → length moments ≤ length told
    → (more : List ℤ) × (told ≡ moments ++ more)
first_told told [] after x few = (told, refl)
first_told [] (now ∷ moments) after x few = absurd (omega (arith, few))
first_told (moment ∷ told) (now ∷ moments) after x few =
    let rest = first_told told moments after (subst (λ between. TicksInTurn between moments after) x.1.0.1 x.1.1) (omega (arith, few)) in
    (rest.0, ap₂ (λ (a : ℤ) (list : List ℤ). a ∷ list) (sym x.1.0.0) rest.1)

pub told_unique : (doors : List Door) (controller : List ℕ) (workers : ℕ) (input : List ℕ) (told : List ℤ) (text text₂ : List ℕ) (refused refused₂ : Bool)
    → length (lines_of input) ≤ length told
    → IsReplay doors controller workers input (Some told) text refused → IsReplay doors controller workers input (Some told) text₂ refused₂
    → (text ≡ text₂) × (refused ≡ refused₂)
told_unique doors controller workers input told text text₂ refused refused₂ enough x y =
    let site : Site = record { doors = doors; controller = controller } in
    let few : length x.moments ≤ length (lines_of input) =
    lines_take site 1 (lines_of input) x.moments (beginning workers) x.replay.last x.replay.lines x.replay.runs in
    let few₂ : length y.moments ≤ length (lines_of input) =
    lines_take site 1 (lines_of input) y.moments (beginning workers) y.replay.last y.replay.lines y.replay.runs in
    let left = first_told told x.moments x.after x.in_turn (omega (arith, few, enough)) in
    let left₂ = first_told told y.moments y.after y.in_turn (omega (arith, few₂, enough)) in
    same_replays doors controller workers input x.moments y.moments left.0 left₂.0 text text₂ refused refused₂ (sym left.1 ∙ left₂.1) x.replay y.replay
