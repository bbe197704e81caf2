-- What an inlet stands for after a step.
use Rattle.std.proofs.Common.{◌≡◌, ℕ, ◌+◌, ◌-◌, ◌*◌, ◌≤◌, ◌<◌, Bool, true, false, Option, Some, None, Result, Ok, Err, IfOk, List, [], ◌∷◌, ◌++◌, take, drop, refl, sym, ap, ◌∙◌, subst, arith, inl, inr, ◌⊎◌, ◌==◌, if◌then◌else◌, append_assoc, cond, count_by}
use Rattle.std.proofs.lemmas.List.{append-nil}
use Rattle.std.proofs.lemmas.List.Sums.{sum_by-append}
use Rattle.gw_messages.specs.model.Bodies.{Body, whole_body, bad_body, part_body, IsBody}
use Rattle.gw_frames.specs.model.Requests.{Asks, long_head, bad_head, good_head, no_head, no_body, faulty_body, last_body, good_body, a_head, a_body, IsJudged, refused, opened, Opening, Request, Step as Plain, an_ask, a_refusal, an_end, announced, after_no_head, end_behind, ended, ended_after, whole_request}
use Rattle.gw_messages.proofs.Sections.{long_more, whole_more}
use Rattle.gw_messages.specs.model.Sections.{IsCut, long_section, part_section, ends_head}
use Rattle.gw_frames.specs.Inlets.{ended_at, ended_by, Follows, fresh, given, Goes, HasRoomAt, IsAll, IsFewer, IsFuture, IsLast, IsStill, is_not_last, last_step, left_at, stage_behind, Still, StillAt, StandsFor, steps_left, unless_ended, with_step}
use Rattle.gw_messages.specs.Readings.{Comes}
use Rattle.gw_messages.specs.Searches.{IsFound}
use Rattle.gw_frames.specs.declared.inlet.Inlet.{Inlet}
use Rattle.gw_frames.specs.declared.step.Step.{Step}
use Rattle.gw_frames.specs.declared.step.Step.TheVariants as steps
use Rattle.gw_frames.specs.declared.inlet.Stage.{Stage}
use Rattle.gw_frames.specs.declared.inlet.Stage.TheVariants.{Head, Body as Reads, Closing, Done}
use Rattle.gw_frames.specs.declared.ended.Ended.{Ended}
use Rattle.gw_frames.specs.declared.ended.Ended.TheVariants.{Closed, Asked, Enough}
use Rattle.gw_frames.specs.declared.ended.Ended.TheVariants as ends
use Rattle.gw_messages.specs.declared.body.Reading.{Reading}
use Rattle.gw_messages.specs.declared.section.Found.TheVariants.{Whole}
use Rattle.std.proofs.lemmas.Bool.Decides.{nat_tests}

-- the steps behind a head are those of its body
pub follows : (count : ℕ) (o : Opening) (bytes : List ℕ) (body : Body) (over : Bool) (more : List Plain) → IsBody 1048576 16777216 o.size bytes body → Follows count o body over more → Asks (a_body o) count bytes over more
follows count o bytes (whole_body body rest) over more is f = by_last f.2
  where
    by_last : (((why : Ended) × (end_behind (count + 1) o.request ≡ Some why) × (f.0 ≡ an_end ∷ [])) ⊎ ((end_behind (count + 1) o.request ≡ None) × Asks a_head (count + 1) rest over f.0)) → Asks (a_body o) count bytes over more
    by_last (inl last) = last_body body rest last.0 is last.1 (f.1 ∙ ap (λ (l : List Plain). an_ask (whole_request o body) ∷ l) last.2)
    by_last (inr open_ended) = good_body body rest f.0 is open_ended.0 open_ended.1 f.1
follows count o bytes (bad_body fault) over more is f = faulty_body fault is f
follows count o bytes part_body over more is f = no_body is f

pub stands_after : (i j : Inlet) (given : List Plain) (bytes : List ℕ) (steps : List Plain) → Goes i j given → StandsFor i bytes steps → StandsFor j bytes (steps ++ given)
stands_after i j given bytes steps goes stands = record {
  room = goes.room stands.room;
  leads = λ next over more future still.
      let old = subst (λ (o : Bool). IsFuture o next over) goes.over future in
      rw append_assoc (stands.leads next over (given ++ more) old (goes.leads stands.room next over more old still));
  told = λ more. ap ended (append_assoc steps given more) ∙ stands.told (given ++ more) ∙ goes.told stands.room more;
}

-- an inlet knows how the connection ended
pub ended_is : (i : Inlet) (bytes : List ℕ) (steps : List Plain) → StandsFor i bytes steps → ended steps ≡ ended_by i.stage
ended_is i bytes steps stands = ap ended (sym (append-nil steps)) ∙ stands.told [] ∙ at_stage i.stage
  where
    at_stage : (stage : Stage) → ended_at stage i.count [] ≡ ended_by stage
    at_stage Head = refl
    at_stage (Reads o r) = refl
    at_stage (Closing why) = refl
    at_stage (Done why) = refl

-- the steps behind a further one
pub stands_with : (i j : Inlet) (step : Step) (bytes : List ℕ) (steps : List Plain) → Goes i j (fresh i.stage step) → StandsFor i bytes steps → StandsFor j bytes (with_step steps step)
stands_with i j step bytes steps goes stands =
    subst (λ (e : Option Ended). StandsFor j bytes (unless_ended e steps (given step))) (sym (ended_is i bytes steps stands)) (at_stage i.stage goes)
  where
    at_stage : (stage : Stage) → Goes i j (fresh stage step) → StandsFor j bytes (unless_ended (ended_by stage) steps (given step))
    at_stage Head g = stands_after i j (given step) bytes steps g stands
    at_stage (Reads o r) g = stands_after i j (given step) bytes steps g stands
    at_stage (Closing why) g = stands_after i j (given step) bytes steps g stands
    at_stage (Done why) g = subst (StandsFor j bytes) (append-nil steps) (stands_after i j [] bytes steps g stands)

nothing_more : (over : Bool) → IsFuture over [] over
nothing_more false = tt
nothing_more true = (refl, refl)

-- no step is still to come
pub still_if : (i : Inlet) (step : Step) → Still i [] i.over [] → IsStill i step
still_if i steps.Need still = still
still_if i (steps.Ask r) still = tt
still_if i steps.Continue still = tt
still_if i (steps.Bad code) still = still
still_if i steps.End still = still
still_if i steps.Truncated still = still

still_is : (i : Inlet) (step : Step) → IsStill i step → IsAll step → Still i [] i.over []
still_is i steps.Need still all = still
still_is i (steps.Ask r) still all = absurd all
still_is i steps.Continue still all = absurd all
still_is i (steps.Bad code) still all = still
still_is i steps.End still all = still
still_is i steps.Truncated still all = still

-- where no step is still to come, the steps are those of the bytes
pub all_given : (i : Inlet) (step : Step) (bytes : List ℕ) (steps : List Plain) → IsStill i step → StandsFor i bytes steps → IsAll step → Asks a_head 0 bytes i.over steps
all_given i step bytes steps still stands all =
    subst (λ (b : List ℕ). Asks a_head 0 b i.over steps) (append-nil bytes)
    (subst (Asks a_head 0 (bytes ++ []) i.over) (append-nil steps) (stands.leads [] i.over [] (nothing_more i.over) (still_is i step still all)))

-- the last step is given again
pub last_again : (i : Inlet) (step : Step) (bytes : List ℕ) (steps : List Plain) → IsLast (ended_by i.stage) step → StandsFor i bytes steps → IsLast (ended steps) step
last_again i step bytes steps last stands = subst (λ (e : Option Ended). IsLast e step) (sym (ended_is i bytes steps stands)) last

-- a last step is the last
pub none_but_last : (last : Ended) → count_by is_not_last (last_step last ∷ []) ≡ 0
none_but_last (ends.Refused code) = refl
none_but_last ends.Truncated = refl
none_but_last ends.Closed = refl
none_but_last ends.Asked = refl
none_but_last ends.Enough = refl

-- a step leaves fewer requests and answers 100 to come, or no more
pub fewer_left : (i j : Inlet) (step : Step) (bytes : List ℕ) (before : List Plain) → Goes i j (fresh i.stage step) → IsLast (ended_by i.stage) step → StandsFor i bytes before → IsFewer step (steps_left j) (steps_left i)
fewer_left i j step bytes before goes last stands = at_stage i.stage (goes.left stands.room) last
  where
    by_step : (s : Step) (m n : ℕ) → count_by is_not_last (given s) + m ≤ n → IsFewer s m n
    by_step steps.Need m n le = omega arith
    by_step (steps.Ask r) m n le = omega arith
    by_step steps.Continue m n le = omega arith
    by_step (steps.Bad code) m n le = omega arith
    by_step steps.End m n le = omega arith
    by_step steps.Truncated m n le = omega arith

    at_stage : (stage : Stage) → count_by is_not_last (fresh stage step) + steps_left j ≤ steps_left i → IsLast (ended_by stage) step → IsFewer step (steps_left j) (steps_left i)
    at_stage Head le is = by_step step (steps_left j) (steps_left i) le
    at_stage (Reads o r) le is = by_step step (steps_left j) (steps_left i) le
    at_stage (Closing why) le is = by_step step (steps_left j) (steps_left i) le
    at_stage (Done why) le is =
        let none : count_by is_not_last (given step) ≡ 0 = ap (count_by is_not_last) is ∙ none_but_last why in
        by_step step (steps_left j) (steps_left i) (omega arith)

-- one after the other
pub goes_then : (i j k : Inlet) (first second : List Plain) → Goes i j first → Goes j k second → Goes i k (first ++ second)
goes_then i j k first second a b = record {
  over = b.over ∙ a.over;
  room = λ r. b.room (a.room r);
  leads = λ r next over more future still.
      rw append_assoc (a.leads r next over (second ++ more) future (b.leads (a.room r) next over more (subst (λ (o : Bool). IsFuture o next over) (sym a.over) future) still));
  told = λ r more. ap (ended_at i.stage i.count) (append_assoc first second more) ∙ a.told r (second ++ more) ∙ b.told (a.room r) more;
  left = λ r. omega (arith, a.left r, b.left (a.room r), sum_by-append (λ (s : Plain). cond (is_not_last s) 1 0) first second);
}

-- a step at a head
pub goes_at_head : (i j : Inlet) (step : Step) → i.stage ≡ Head → Goes i j (given step) → Goes i j (fresh i.stage step)
goes_at_head i j step head goes = subst (λ (s : Stage). Goes i j (fresh s step)) (sym head) goes

-- no connection ended that is at a head
pub last_at_head : (i : Inlet) (step : Step) → i.stage ≡ Head → IsLast (ended_by i.stage) step
last_at_head i step head = subst (λ (s : Stage). IsLast (ended_by s) step) (sym head) tt

-- a step behind what gave none
pub goes_on : (i j k : Inlet) (step : Step) → Goes i j [] → fresh j.stage step ≡ fresh i.stage step → Goes j k (fresh j.stage step) → Goes i k (fresh i.stage step)
goes_on i j k step a same b = subst (Goes i k) same (goes_then i j k [] (fresh j.stage step) a b)

-- what follows from two facts on a value
pub both_ok : {X Y : Type 0} (r : Result X Y) (P Q R : X → Type 0) → ((x : X) → P x → Q x → R x) → IfOk r P → IfOk r Q → IfOk r R
both_ok (Ok x) P Q R f p q = f x p q
both_ok (Err e) P Q R f p q = tt

-- nothing was done
pub goes_nowhere : (i : Inlet) → Goes i i []
goes_nowhere i = record { over = refl; room = λ r. r; leads = λ r next over more future still. still; told = λ r more. refl; left = λ r. omega arith }

-- the steps that come at a head
at_head : (i : Inlet) (next : List ℕ) (over : Bool) (more : List Plain) → i.stage ≡ Head → Asks a_head i.count (i.buffer ++ next) over more → Still i next over more
at_head i next over more e asks = subst (λ (s : Stage). StillAt s i.count (i.buffer ++ next) over more) (sym e) asks

-- a last step is given
pub goes_to_end : (i j : Inlet) (last : Ended) (given : List Plain) → j.over ≡ i.over → j.stage ≡ Done last → given ≡ last_step last ∷ []
    → ((more : List Plain) → ended_at i.stage i.count (last_step last ∷ more) ≡ Some last)
    → ((next : List ℕ) (over : Bool) → IsFuture i.over next over → Still i next over (last_step last ∷ [])) → Goes i j given
goes_to_end i j last given over stage is ends h = record {
  over = over;
  room = λ r. subst (λ (s : Stage). HasRoomAt s j.count) (sym stage) tt;
  leads = λ r next o more future still.
      let none : more ≡ [] = subst (λ (s : Stage). StillAt s j.count (j.buffer ++ next) o more) stage still in
      rw (is, none) (h next o future);
  told = λ r more. rw (is, stage) (ends more);
  left = λ r.
      let none : count_by is_not_last given ≡ 0 = ap (count_by is_not_last) is ∙ none_but_last last in
      let ended : steps_left j ≡ 0 = ap (λ (s : Stage). left_at s j.count) stage in
      omega arith;
}

-- the last step behind the last request
pub goes_to_close : (i j : Inlet) (why : Ended) (given : List Plain) → i.stage ≡ Closing why → j.over ≡ i.over → j.stage ≡ Done why → given ≡ last_step why ∷ [] → Goes i j given
goes_to_close i j why given closing over stage is =
    goes_to_end i j why given over stage is (λ more. subst (λ (s : Stage). ended_at s i.count (last_step why ∷ more) ≡ Some why) (sym closing) (told i.count why more))
    (λ next o future. subst (λ (s : Stage). StillAt s i.count (i.buffer ++ next) o (last_step why ∷ [])) (sym closing) refl)
  where
    told : (count : ℕ) (last : Ended) (more : List Plain) → ended_after count last (last_step last ∷ more) ≡ Some last
    told count (ends.Refused code) more = refl
    told count ends.Truncated more = refl
    told count ends.Closed more = refl
    told count ends.Asked more = refl
    told count ends.Enough more = refl

-- how the connection ends with a last step at a head
pub ends_at_head : (stage : Stage) (count : ℕ) (last : Ended) (more : List Plain) → stage ≡ Head → ended_after count Closed (last_step last ∷ more) ≡ Some last → ended_at stage count (last_step last ∷ more) ≡ Some last
ends_at_head stage count last more e is = subst (λ (s : Stage). ended_at s count (last_step last ∷ more) ≡ Some last) (sym e) is

-- nothing more without more bytes of a head
pub head_needs : (i : Inlet) → i.stage ≡ Head → i.over ≡ false → IsCut ends_head 16384 i.buffer part_section → Still i [] i.over []
head_needs i head over part =
    rw over (at_head i [] false [] head (no_head (subst (λ (b : List ℕ). IsCut ends_head 16384 b part_section) (sym (append-nil i.buffer)) part) refl))

-- nothing more without more bytes of a body
pub body_needs : (i : Inlet) (o : Opening) (r : Reading) → i.stage ≡ Reads o r → i.over ≡ false → Comes r i.buffer part_body → Still i [] i.over []
body_needs i o r reads over part =
    rw over (subst (λ (s : Stage). StillAt s i.count (i.buffer ++ []) false []) (sym reads)
    (part_body, subst (λ (b : List ℕ). Comes r b part_body) (sym (append-nil i.buffer)) part, refl))

-- the bytes end where a head isn't whole
pub head_over : (i : Inlet) → i.stage ≡ Head → i.over ≡ true → IsCut ends_head 16384 i.buffer part_section
    → (next : List ℕ) (over : Bool) → IsFuture i.over next over → Still i next over (after_no_head i.buffer true)
head_over i head finished part next over future =
    let f = subst (λ (o : Bool). IsFuture o next over) finished future in
    rw (f.0, f.1) (at_head i [] true (after_no_head i.buffer true) head
    (rw append-nil (no_head part refl)))

-- a head that is too long
pub head_long : (i : Inlet) → i.stage ≡ Head → IsCut ends_head 16384 i.buffer long_section
    → (next : List ℕ) (over : Bool) → Still i next over (a_refusal 431 ∷ [])
head_long i head cut next over = at_head i next over (a_refusal 431 ∷ []) head (long_head (long_more ends_head 16384 i.buffer next cut))

-- a head that is refused
pub head_refused : (i : Inlet) (count code : ℕ) → i.stage ≡ Head → IsFound ends_head i.buffer (Whole count) → IsJudged (take count i.buffer) (refused code)
    → (next : List ℕ) (over : Bool) → Still i next over (a_refusal code ∷ [])
head_refused i count code head found judged next over =
    at_head i next over (a_refusal code ∷ []) head
    (bad_head (take count i.buffer) (drop count i.buffer ++ next) (whole_more ends_head 16384 i.buffer (take count i.buffer) (drop count i.buffer) next found.1) judged)

-- a head that opens a request
pub goes_to_body : (i j : Inlet) (count : ℕ) (o : Opening) (r : Reading) (expects : Bool) → o.expects ≡ expects → i.stage ≡ Head → IsFound ends_head i.buffer (Whole count) → IsJudged (take count i.buffer) (opened o)
    → ((bytes : List ℕ) (body : Body) → Comes r bytes body → IsBody 1048576 16777216 o.size bytes body)
    → j.over ≡ i.over → j.count ≡ i.count → j.stage ≡ Reads o r → j.buffer ≡ drop count i.buffer → Goes i j (announced expects)
goes_to_body i j count o r expects expected head found judged reads over number stage buffer = record {
  over = over;
  room = λ room. subst (λ (s : Stage). HasRoomAt s j.count) (sym stage) (rw number (subst (λ (s : Stage). HasRoomAt s i.count) head room));
  leads = λ room next ov more future still.
      let at = subst (λ (s : Stage). StillAt s j.count (j.buffer ++ next) ov more) stage still in
      let body = subst (λ (b : List ℕ). Comes r (b ++ next) at.0) buffer at.1 in
      let steps = subst (λ (n : ℕ). Follows n o at.0 ov more) number at.2 in
      at_head i next ov (announced expects ++ more) head
      (good_head (take count i.buffer) (drop count i.buffer ++ next) o more (whole_more ends_head 16384 i.buffer (take count i.buffer) (drop count i.buffer) next found.1) judged
      (follows i.count o (drop count i.buffer ++ next) at.0 ov more (reads (drop count i.buffer ++ next) at.0 body) steps) (ap (λ (b : Bool). announced b ++ more) (sym expected)));
  told = λ room more. rw (head, stage, number) (unheard i.count expects more);
  left = λ room.
      let more : i.count < 1000 = subst (λ (s : Stage). HasRoomAt s i.count) head room in
      let before : steps_left i ≡ 2 * (1000 - i.count) = ap (λ (s : Stage). left_at s i.count) head in
      let after : steps_left j ≡ 2 * (1000 - j.count) - 1 = ap (λ (s : Stage). left_at s j.count) stage in
      omega (arith, one expects);
}
  where
    one : (b : Bool) → count_by is_not_last (announced b) ≤ 1
    one true = omega arith
    one false = omega arith

    unheard : (count : ℕ) (b : Bool) (more : List Plain) → ended_after count Closed (announced b ++ more) ≡ ended_after count Closed more
    unheard count true more = refl
    unheard count false more = refl

few_more : (o : Opening) (n : ℕ) → n < 1000 → end_behind (n + 1) o.request ≡ None → n + 1 < 1000
few_more o n lt e = few o.request.close (n + 1) (omega arith) e
  where
    few : (b : Bool) (m : ℕ) → m ≤ 1000 → (if b then Some Asked else (if m == 1000 then Some Enough else None)) ≡ None → m < 1000
    few true m le e = cc
    few false m le e = enough (m == 1000) refl e
      where
        enough : (t : Bool) → (m == 1000) ≡ t → (if t then Some Enough else None) ≡ None → m < 1000
        enough true is e = cc
        enough false is e = grind (arith, nat_tests)

-- behind a request a connection ends with no refusal
end_is : (number : ℕ) (r : Request) (why : Ended) → end_behind number r ≡ Some why → last_step why ≡ an_end
end_is number r why e = by_tests r.close (number == 1000) e
  where
    by_tests : (close enough : Bool) → (if close then Some Asked else (if enough then Some Enough else None)) ≡ Some why → last_step why ≡ an_end
    by_tests true enough is = let same : Asked ≡ why = cc in subst (λ (w : Ended). last_step w ≡ an_end) same refl
    by_tests false true is = let same : Enough ≡ why = cc in subst (λ (w : Ended). last_step w ≡ an_end) same refl
    by_tests false false is = cc

-- a request is given, behind which the connection ends or another may come
pub goes_to_ask : (i j : Inlet) (o : Opening) (r : Reading) (before content : List ℕ) (q : Request) → q ≡ whole_request o content → (number : ℕ) → (i.count < 1000 → number ≡ i.count + 1)
    → ((next : List ℕ) → Comes r (before ++ next) (whole_body content (i.buffer ++ next)))
    → j.over ≡ i.over → j.count ≡ number → j.buffer ≡ i.buffer → (end : Option Ended) → end_behind number o.request ≡ end → j.stage ≡ stage_behind end
    → Goes (record i { stage = Reads o r; buffer = before }) j (an_ask q ∷ [])
goes_to_ask i j o r before content q asked number counts comes over count buffer (Some why) ends stage = record {
  over = over;
  room = λ room. subst (λ (s : Stage). HasRoomAt s j.count) (sym stage) tt;
  leads = λ room next ov more future still.
      let at = subst (λ (s : Stage). StillAt s j.count (j.buffer ++ next) ov more) stage still in
      (whole_body content (i.buffer ++ next), comes next, (more, ap (λ (x : Request). an_ask x ∷ more) asked, inl (why, rw (← counts room) ends, at ∙ ap (λ (s : Plain). s ∷ []) (end_is number o.request why ends))));
  told = λ room more. rw (stage, count, asked, ← counts room, ends) refl;
  left = λ room.
      let after : steps_left j ≡ 0 = ap (λ (s : Stage). left_at s j.count) stage in
      omega arith;
}
goes_to_ask i j o r before content q asked number counts comes over count buffer None ends stage = record {
  over = over;
  room = λ room. subst (λ (s : Stage). HasRoomAt s j.count) (sym stage) (rw (count, counts room) (few_more o i.count room (rw (← counts room) ends)));
  leads = λ room next ov more future still.
      let at = subst (λ (s : Stage). StillAt s j.count (j.buffer ++ next) ov more) stage still in
      let asks = subst (λ (n : ℕ). Asks a_head n (j.buffer ++ next) ov more) (count ∙ counts room) at in
      let here = subst (λ (b : List ℕ). Asks a_head (i.count + 1) (b ++ next) ov more) buffer asks in
      (whole_body content (i.buffer ++ next), comes next, (more, ap (λ (x : Request). an_ask x ∷ more) asked, inr (rw (← counts room) ends, here)));
  told = λ room more. rw (stage, count, asked, ← counts room, ends) refl;
  left = λ room.
      let after : steps_left j ≡ 2 * (1000 - j.count) = ap (λ (s : Stage). left_at s j.count) stage in
      omega (arith, counts room);
}
