-- What a script does is what some steps of a schedule do.
use Rattle.std.proofs.Common.{◌≡◌, ◌∙◌, ◌≤◌, ◌<◌, ℕ, ℤ, zero, suc, ◌+◌, Bool, true, false, List, [], ◌∷◌, ◌++◌, append-nil, append_assoc, length, length-append, max, set, replicate, slice_get, take, arith, refl, sym, ap, subst, Option, Some, None, Result, Ok, Err}
use Rattle.std.proofs.lemmas.List.{length-set}
use Rattle.std.proofs.lemmas.Option.{slice_get_within}
use Rattle.gw_answers.specs.declared.books.Books.{Books}
use Rattle.gw_decide.specs.model.Verdicts.{verdict_of}
use Rattle.gw_frames.specs.declared.ended.Ended.{Ended}
use Rattle.gw_frames.specs.model.Requests.{Request}
use Rattle.gw_json.specs.Refusals.{refusal_number, refusal_path}
use Rattle.gw_json.specs.declared.refusal.Refusal.{Refusal}
use Rattle.gw_lists.proofs.Beginnings.{begins_with-self}
use Rattle.gw_match.specs.model.Telling.{world_after}
use Rattle.gw_script.specs.Scripts.{step_of as said_step}
use Rattle.gw_script.specs.Steps.{Step as ScriptStep, an_event, a_publication as publishes, a_beginning, a_sending, an_end, an_answer, a_failure}
use Rattle.gw_script.specs.declared.refusal.StepRefusal.{StepRefusal}
use Rattle.gw_snap.specs.Lists.{BeginsWith}
use Rattle.gw_store.specs.Events.{Read, a_change as is_change, is_skipped, answer}
use Rattle.gw_store.specs.Lines.{is_blank}
use Rattle.gw_store.specs.declared.event.Entry.{Entry}
use Rattle.gw_worker.specs.model.Sessions.{Handled, Part, Place, a_close, a_cut, a_refused, a_request, a_wait, books_at, rows_after}
use Rattle.gw_replay.specs.Replays.{AreDecidedBy, Begins, Client, EventDone, IsRefused, LineDone, Publishes, Runs, SaidDone, Sends, Serves, Site, State, StepDone, place_at}
use Rattle.gw_replay.specs.Schedules.{AreAtMost, Goes, Moves, Schedule, Sees, Step, Takes, a_change, a_note, a_publication, a_reading, an_ask, schedule_of}

-- steps, and then others
goes_then : (site : Site) (steps others : List Step) (a b c : Schedule) → Goes site steps a b → Goes site others b c → Goes site (steps ++ others) a c
goes_then site [] others a b c x y = subst (λ (m : Schedule). Goes site others m c) x y
goes_then site (step ∷ steps) others a b c x y = (x.0, (x.1.0, goes_then site steps others x.0 b c x.1.1 y))

-- some steps lead from one state to another
record Scheduled (site : Site) (s s' : State) : Type 0 where
  steps : List Step
  goes : Goes site steps (schedule_of s) (schedule_of s')
  begins : BeginsWith s'.published s'.changes

none_done : (site : Site) (s s' : State) → BeginsWith s'.published s'.changes → schedule_of s' ≡ schedule_of s → Scheduled site s s'
none_done site s s' begins same = record { steps = []; goes = same; begins = begins }

-- a worker of a number among alike
same_there : (count n place : ℕ) → place < count → slice_get (replicate count n) place ≡ Some n
same_there zero n place within = absurd (omega (arith, within))
same_there (suc count) n zero within = refl
same_there (suc count) n (suc place) within = same_there count n place (omega (arith, within))

same_set : (count n place : ℕ) → set (replicate count n) place n ≡ replicate count n
same_set zero n place = refl
same_set (suc count) n zero = refl
same_set (suc count) n (suc place) = ap (λ (l : List ℕ). n ∷ l) (same_set count n place)

-- the first changes of a list are those that it begins with
first_of : (xs ys : List Entry) → take (length xs) (xs ++ ys) ≡ xs
first_of [] ys = refl
first_of (x ∷ xs) ys = ap (λ (l : List Entry). x ∷ l) (first_of xs ys)

published_first : (s : State) → BeginsWith s.published s.changes → take (length s.published) s.changes ≡ s.published
published_first s begins = ap (take (length s.published)) begins.1 ∙ first_of s.published begins.0

-- every worker learns
abbrev notes_from : ℕ → ℕ → ℕ → List Step
notes_from place zero told = []
notes_from place (suc count) told = a_note place told ∷ notes_from (place + 1) count told

there_behind : (done rest : List ℕ) (n : ℕ) → slice_get (done ++ n ∷ rest) (length done) ≡ Some n
there_behind [] rest n = refl
there_behind (d ∷ done) rest n = there_behind done rest n

set_behind : (done rest : List ℕ) (n m : ℕ) → set (done ++ n ∷ rest) (length done) m ≡ done ++ m ∷ rest
set_behind [] rest n m = refl
set_behind (d ∷ done) rest n m = ap (λ (l : List ℕ). d ∷ l) (set_behind done rest n m)

abbrev with_seen : List Entry → ℕ → List ℕ → Schedule
with_seen changes front seen = record { changes = changes; front = front; seen = seen; reader = None }

all_learn : (site : Site) (changes : List Entry) (front n : ℕ) (done : List ℕ) (count : ℕ) → n ≤ front
    → Goes site (notes_from (length done) count front) (with_seen changes front (done ++ replicate count n)) (with_seen changes front (done ++ replicate count front))
all_learn site changes front n done zero few = refl
all_learn site changes front n done (suc count) few =
    let next = with_seen changes front (done ++ front ∷ replicate count n) in
    let size : length (done ++ front ∷ []) ≡ length done + 1 = length-append done (front ∷ []) in
    let rest : Goes site (notes_from (length (done ++ front ∷ [])) count front) (with_seen changes front ((done ++ front ∷ []) ++ replicate count n)) (with_seen changes front ((done ++ front ∷ []) ++ replicate count front))
    = all_learn site changes front n (done ++ front ∷ []) count few in
    let there : Goes site (notes_from (length done + 1) count front) next (with_seen changes front (done ++ front ∷ replicate count front))
    = subst (λ (k : ℕ). Goes site (notes_from k count front) next (with_seen changes front (done ++ front ∷ replicate count front))) size
    (subst (λ (l : List ℕ). Goes site (notes_from (length (done ++ front ∷ [])) count front) (with_seen changes front l) (with_seen changes front (done ++ front ∷ replicate count front)))
    (append_assoc done (front ∷ []) (replicate count n))
    (subst (λ (l : List ℕ). Goes site (notes_from (length (done ++ front ∷ [])) count front) (with_seen changes front ((done ++ front ∷ []) ++ replicate count n)) (with_seen changes front l))
    (append_assoc done (front ∷ []) (replicate count front)) rest)) in (
      next,
      (
        (
          done ++ front ∷ replicate count n,
          (
            record {
              before = n;
              after = front;
              there = there_behind done (replicate count n) n;
              later = omega (arith, few);
              within = omega arith;
              seen_is = sym (set_behind done (replicate count n) n front);
            },
            omega arith,
            refl,
          ),
        ),
        there,
      ),
    )

-- a worker serves requests, each by what is published
abbrev asks_from : Site → ℕ → ℕ → List Part → List Step
asks_from site worker door [] = []
asks_from site worker door (a_request q h ∷ parts) =
    a_reading worker ∷ an_ask worker door q (verdict_of (rows_after (place_at site door) h.changes) q) ∷ asks_from site worker door parts
asks_from site worker door (a_wait ∷ parts) = asks_from site worker door parts
asks_from site worker door (a_refused code ∷ parts) = asks_from site worker door parts
asks_from site worker door (a_close ∷ parts) = asks_from site worker door parts
asks_from site worker door (a_cut ∷ parts) = asks_from site worker door parts

all_ask : (site : Site) (s : State) (worker door : ℕ) (before after : Books) (parts : List Part) → BeginsWith s.published s.changes → worker < length s.workers
    → AreDecidedBy (place_at site door) s.published before after parts → Goes site (asks_from site worker door parts) (schedule_of s) (schedule_of s)
all_ask site s worker door before after [] begins there d = refl
all_ask site s worker door before after (a_request q h ∷ parts) begins there d =
    let m = schedule_of s in
    let read : Schedule = record m { reader = Some worker } in
    let same : h.changes ≡ take (length s.published) s.changes = d.0 ∙ sym (published_first s begins) in (
      read,
      (
        (
          m.seen,
          (
            record {
              before = length s.published;
              after = length s.published;
              there = same_there (length s.workers) (length s.published) worker there;
              later = omega arith;
              within = omega arith;
              seen_is = sym (same_set (length s.workers) (length s.published) worker);
            },
            refl,
          ),
        ),
        (
          m,
          (
            (
              record {
                read = refl;
                seen = length s.published;
                there = same_there (length s.workers) (length s.published) worker there;
                verdict = ap (λ (list : List Entry). verdict_of (rows_after (place_at site door) list) q) same;
              },
              refl,
            ),
            all_ask site s worker door (books_at (place_at site door) q h) after parts begins there d.2,
          ),
        ),
      ),
    )
all_ask site s worker door before after (a_wait ∷ parts) begins there d = all_ask site s worker door before after parts begins there d
all_ask site s worker door before after (a_refused code ∷ parts) begins there d = all_ask site s worker door before after parts begins there d
all_ask site s worker door before after (a_close ∷ parts) begins there d = all_ask site s worker door before after parts begins there d
all_ask site s worker door before after (a_cut ∷ parts) begins there d = all_ask site s worker door before after parts begins there d

-- a line that is refused
refused_schedule : (site : Site) (line number : ℕ) (path : Option (List ℕ)) (s s' : State) (text : List ℕ) → BeginsWith s.published s.changes → IsRefused line number path s s' text → Scheduled site s s'
refused_schedule site line number path s s' text begins x = subst (Scheduled site s) (sym x.state) (none_done site s (record s { refused = s.refused + 1 }) begins refl)

-- an event
event_schedule : (site : Site) (line : ℕ) (at : ℤ) (bytes : List ℕ) (r : Result Read Refusal) (s s' : State) (text : List ℕ) → answer (world_after s.changes) bytes ≡ r → BeginsWith s.published s.changes
    → EventDone line at r s s' text → Scheduled site s s'
event_schedule site line at bytes (Ok (is_change event)) s s' text is begins x =
    let after : State = record s { changes = s.changes ++ x.0 ∷ [] } in
    subst (Scheduled site s) (sym x.1.1) (record {
      steps = a_change bytes at ∷ [];
      goes = (
        schedule_of after,
        ((after.changes, (subst (λ (a : Result Read Refusal). Takes a at s.changes after.changes) (sym is) (x.0, (x.1.0, refl)), refl)), refl),
      );
      begins = (begins.0 ++ x.0 ∷ [], ap (λ (l : List Entry). l ++ x.0 ∷ []) begins.1 ∙ append_assoc s.published begins.0 (x.0 ∷ []));
    })
event_schedule site line at bytes (Ok is_skipped) s s' text is begins x =
    subst (Scheduled site s) (sym x.0) (none_done site s (record s { skipped = s.skipped + 1 }) begins refl)
event_schedule site line at bytes (Err e) s s' text is begins x = refused_schedule site line (refusal_number e) (refusal_path e) s s' text begins x

-- a publication, of which every worker learns
published_schedule : (site : Site) (line : ℕ) (s s' : State) (text : List ℕ) → BeginsWith s.published s.changes → Publishes line s s' text → Scheduled site s s'
published_schedule site line s s' text begins x =
    let few : length s.published ≤ length s.changes = omega (arith, ap length begins.1, length-append s.published begins.0) in
    subst (Scheduled site s) (sym x.state) (record {
      steps = a_publication ∷ notes_from 0 (length s.workers) (length s.changes);
      goes = (
        with_seen s.changes (length s.changes) (replicate (length s.workers) (length s.published)),
        (refl, all_learn site s.changes (length s.changes) (length s.published) [] (length s.workers) few),
      );
      begins = begins_with-self s.changes;
    })

-- a connection is served
served_schedule : (site : Site) (line door : ℕ) (name piece : List ℕ) (c c' : Client) (ending : Option Ended) (s s' : State) (text : List ℕ) → BeginsWith s.published s.changes
    → Serves (place_at site door) line name c c' piece ending s s' text → Scheduled site s s'
served_schedule site line door name piece c c' ending s s' text begins x =
    let there : c.worker < length s.workers = slice_get_within s.workers c.worker x.before x.worker in
    let size : length s'.workers ≡ length s.workers = ap (λ (t : State). length t.workers) x.state ∙ length-set s.workers c.worker x.after in
    let changes : s'.changes ≡ s.changes = ap (λ (t : State). t.changes) x.state in
    let published : s'.published ≡ s.published = ap (λ (t : State). t.published) x.state in
    let same : schedule_of s' ≡ schedule_of s = rw (size, changes, published) refl in
    record {
      steps = asks_from site c.worker door x.more;
      goes = subst (λ (m : Schedule). Goes site (asks_from site c.worker door x.more) (schedule_of s) m) (sym same)
          (all_ask site s c.worker door x.before x.after x.more begins there x.decided);
      begins = rw (changes, published) begins;
    }

sends_schedule : (site : Site) (line : ℕ) (name piece : List ℕ) (o : Option Client) (s s' : State) (text : List ℕ) → BeginsWith s.published s.changes → Sends site line name piece o s s' text → Scheduled site s s'
sends_schedule site line name piece None s s' text begins x = refused_schedule site line _ _ s s' text begins x
sends_schedule site line name piece (Some c) s s' text begins x =
    let served = served_schedule site line c.door name piece c x.0 x.1.0 s x.1.1.0 text begins x.1.1.1.0 in
    subst (Scheduled site s) (sym x.1.1.1.1) (record { steps = served.steps; goes = served.goes; begins = served.begins })

begins_schedule : (site : Site) (line : ℕ) (name : List ℕ) (worker door : ℕ) (o : Option Client) (s s' : State) (text : List ℕ) → BeginsWith s.published s.changes → Begins line name worker door o s s' text → Scheduled site s s'
begins_schedule site line name worker door None s s' text begins x = subst (Scheduled site s) (sym x.0) (record { steps = []; goes = refl; begins = begins })
begins_schedule site line name worker door (Some c) s s' text begins x = refused_schedule site line _ _ s s' text begins x

step_schedule : (site : Site) (line : ℕ) (step : ScriptStep) (here : List ℤ) (s s' : State) (text : List ℕ) → BeginsWith s.published s.changes → StepDone site line step here s s' text → Scheduled site s s'
step_schedule site line (an_event bytes) here s s' text begins x = event_schedule site line x.0 bytes (answer (world_after s.changes) bytes) s s' text refl begins x.1.1
step_schedule site line publishes here s s' text begins x = published_schedule site line s s' text begins x.1
step_schedule site line (a_beginning name worker door) here s s' text begins x = begins_schedule site line name worker door (s.clients name) s s' text begins x.1
step_schedule site line (a_sending name bytes) here s s' text begins x = sends_schedule site line name bytes (s.clients name) s s' text begins x.1
step_schedule site line (an_end name) here s s' text begins x = sends_schedule site line name [] (s.clients name) s s' text begins x.1
step_schedule site line (an_answer socket bytes fill) here s s' text begins x = subst (Scheduled site s) (sym x.1.1.1) (record { steps = []; goes = refl; begins = begins })
step_schedule site line (a_failure socket call) here s s' text begins x = subst (Scheduled site s) (sym x.1) (record { steps = []; goes = refl; begins = begins })

said_schedule : (site : Site) (line : ℕ) (said : Result ScriptStep StepRefusal) (here : List ℤ) (s s' : State) (text : List ℕ) → BeginsWith s.published s.changes → SaidDone site line said here s s' text → Scheduled site s s'
said_schedule site line (Ok step) here s s' text begins x = step_schedule site line step here s s' text begins x
said_schedule site line (Err e) here s s' text begins x = refused_schedule site line _ _ s s' text begins x.1

line_schedule : (blank : Bool) (site : Site) (line : ℕ) (bytes : List ℕ) (here : List ℤ) (s s' : State) (text : List ℕ) → BeginsWith s.published s.changes → LineDone blank site line bytes here s s' text → Scheduled site s s'
line_schedule true site line bytes here s s' text begins x = subst (Scheduled site s) (sym x.1) (record { steps = []; goes = refl; begins = begins })
line_schedule false site line bytes here s s' text begins x = said_schedule site line (said_step (length s.workers) (length site.doors) bytes) here s s' text begins x

runs_schedule : (site : Site) (line : ℕ) (lines : List (List ℕ)) (moments : List ℤ) (s s' : State) (text : List ℕ) → BeginsWith s.published s.changes → Runs site line lines moments s s' text → Scheduled site s s'
runs_schedule site line [] moments s s' text begins x = subst (Scheduled site s) (sym x.1) (record { steps = []; goes = refl; begins = begins })
runs_schedule site line (bytes ∷ lines) moments s s' text begins x =
    let f = x.1.1.1.1.1 in
    let first = line_schedule (is_blank bytes) site line bytes x.0 s x.1.1.0 x.1.1.1.0 begins f.2 in
    let later = runs_schedule site (line + 1) lines x.1.0 x.1.1.0 s' x.1.1.1.1.0 first.begins f.3 in
    record {
      steps = first.steps ++ later.steps;
      goes = goes_then site first.steps later.steps (schedule_of s) (schedule_of x.1.1.0) (schedule_of s') first.goes later.goes;
      begins = later.begins;
    }

pub script_scheduled : (site : Site) (line : ℕ) (lines : List (List ℕ)) (moments : List ℤ) (s s' : State) (text : List ℕ) → BeginsWith s.published s.changes → Runs site line lines moments s s' text
    → (steps : List Step) × Goes site steps (schedule_of s) (schedule_of s')
script_scheduled site line lines moments s s' text begins x = let d = runs_schedule site line lines moments s s' text begins x in (d.steps, d.goes)
