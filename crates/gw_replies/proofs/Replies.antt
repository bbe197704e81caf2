-- What a reader stands for after a step.
use Rattle.std.proofs.Common.{◌≡◌, ℕ, zero, suc, ◌+◌, ◌≤◌, ◌<◌, Bool, true, false, List, [], ◌++◌, length, take, drop, Option, Some, None, Result, Ok, Err, IfOk, refl, sym, ap, ◌∙◌, subst, arith, inl, inr}
use Rattle.std.proofs.lemmas.List.{append-nil, length-drop, length-take-le}
use Rattle.gw_messages.specs.model.Bodies.{Body, whole_body, bad_body, part_body}
use Rattle.gw_messages.specs.model.Sections.{IsCut, whole_section, long_section, part_section, ends_head}
use Rattle.gw_messages.proofs.Sections.{long_more, whole_more}
use Rattle.gw_messages.specs.Readings.{Comes, Leads}
use Rattle.gw_messages.specs.Searches.{IsFound}
use Rattle.gw_messages.specs.declared.body.Reading.{Reading}
use Rattle.gw_messages.specs.declared.section.Found.TheVariants.{Whole}
use Rattle.gw_replies.specs.model.Responses.{Outcome, a_need, a_response, a_fault, Head as PlainHead, IsHead, Response, ResponseOf, Responds, no_head, long_head, bad_head, refused_head, many_interim, interim, bodiless, misframed, bodied, IsBodyOf, by_end, extent_of, outcome_of, response_of, unfinished, body_to_end}
use Rattle.gw_replies.specs.Kinds.{IsKind}
use Rattle.gw_replies.specs.Replies.{after, Answers, Ends, follows, Goes, HasGiven, IsFuture, IsOpen, IsReads, IsStep, seen, StandsFor, Still, StillAt}
use Rattle.gw_replies.specs.declared.fault.BackendFault.{BackendFault}
use Rattle.gw_replies.specs.declared.fault.BackendFault.TheVariants as faults
use Rattle.gw_replies.specs.declared.kind.Kind.TheVariants as kinds
use Rattle.gw_replies.specs.declared.reader.ReplyReader.{ReplyReader}
use Rattle.gw_replies.specs.declared.reader.Stage.{Stage}
use Rattle.gw_replies.specs.declared.reader.Stage.TheVariants.{Head, Body as Reads, ToEnd, Done, Failed}
use Rattle.std.specs.Prelude.{Box}
use Rattle.std.specs.declared.alloc.Global.{Global}
use Rattle.gw_replies.specs.declared.step.ReplyStep.{ReplyStep}
use Rattle.gw_replies.specs.declared.step.ReplyStep.TheVariants as steps

-- nothing was done
pub goes_nowhere : (i : ReplyReader) → IsOpen i.stage → Goes i i
goes_nowhere i is_open = record { over = refl; to_head = refl; stays_open = is_open; leads = λ next over outcome future still. still }

future_before : (before now : Bool) (next : List ℕ) (over : Bool) → now ≡ before → IsFuture now next over → IsFuture before next over
future_before before now next over e future = subst (λ (o : Bool). IsFuture o next over) e future

-- one after the other
pub goes_then : (i j k : ReplyReader) → Goes i j → Goes j k → Goes i k
goes_then i j k a b = record {
  over = b.over ∙ a.over;
  to_head = b.to_head ∙ a.to_head;
  stays_open = b.stays_open;
  leads = λ next over outcome future still.
      a.leads next over outcome future (b.leads next over outcome (future_before j.over i.over next over (sym a.over) future) still);
}

ends_after : (i j : ReplyReader) (outcome : Outcome) → Goes i j → Ends j outcome → Ends i outcome
ends_after i j outcome a ends = λ next over future.
    a.leads next over outcome future (ends next over (future_before j.over i.over next over (sym a.over) future))

-- the same in all that counts
pub goes_same : (i j : ReplyReader) → j.over ≡ i.over → j.to_head ≡ i.to_head → j.interims ≡ i.interims → j.taken ≡ i.taken → j.stage ≡ i.stage → j.buffer ≡ i.buffer
    → IsOpen i.stage → Goes i j
goes_same i j over to_head interims taken stage buffer is_open = record {
  over = over;
  to_head = to_head;
  stays_open = subst IsOpen (sym stage) is_open;
  leads = λ next o outcome future still.
      let a = subst (λ (s : Stage). StillAt s j.to_head j.interims j.taken (j.buffer ++ next) o outcome) stage still in
      let b = subst (λ (t : Bool). StillAt i.stage t j.interims j.taken (j.buffer ++ next) o outcome) to_head a in
      let d = subst (λ (n : ℕ). StillAt i.stage i.to_head n j.taken (j.buffer ++ next) o outcome) interims b in
      let e = subst (λ (n : ℕ). StillAt i.stage i.to_head i.interims n (j.buffer ++ next) o outcome) taken d in
      subst (λ (l : List ℕ). StillAt i.stage i.to_head i.interims i.taken (l ++ next) o outcome) buffer e;
}

-- a step behind others
pub step_after : (i j k : ReplyReader) (step : ReplyStep) → Goes i j → IsStep j k step → IsStep i k step
step_after i j k steps.Need a is = (goes_then i j k a is.0, is.1)
step_after i j k (steps.Done r) a is = (is.0 ∙ a.over, is.1, ends_after i j (a_response r.value) a is.2)
step_after i j k (steps.Fault fault) a is = (is.0 ∙ a.over, is.1, ends_after i j (a_fault fault) a is.2)

-- what was given stays
not_both : (s : Stage) (outcome : Outcome) → IsOpen s → HasGiven s outcome → ⊥
not_both Head outcome is_open has = has
not_both (Reads r reading) outcome is_open has = has
not_both (ToEnd r) outcome is_open has = has
not_both Done outcome is_open has = is_open
not_both (Failed fault) outcome is_open has = is_open

here : (over : Bool) → IsFuture over [] over
here false = tt
here true = (refl, refl)

-- where nothing was given
pub stands_goes : (i j : ReplyReader) (to_head : Bool) (bytes : List ℕ) (was : Option Outcome) → IsOpen i.stage → Goes i j → StandsFor to_head i bytes was → StandsFor to_head j bytes was
stands_goes i j to_head bytes None is_open goes stands = (
  goes.stays_open,
  goes.to_head ∙ stands.1,
  λ next over outcome future still.
      let before = future_before i.over j.over next over goes.over future in
      stands.2 next over outcome before (goes.leads next over outcome before still),
)
stands_goes i j to_head bytes (Some outcome) is_open goes stands = elim (not_both i.stage outcome is_open stands.0) [ ]

stands_end : (i j : ReplyReader) (to_head : Bool) (bytes : List ℕ) (outcome : Outcome) → HasGiven j.stage outcome → j.over ≡ i.over → Ends i outcome
    → StandsFor to_head i bytes None → StandsFor to_head j bytes (Some outcome)
stands_end i j to_head bytes outcome has over ends stands = (
  has,
  λ next o future.
      let before = future_before i.over j.over next o over future in
      stands.2 next o outcome before (ends next o before),
)

pub stands_after : (i j : ReplyReader) (step : ReplyStep) (to_head : Bool) (bytes : List ℕ) (was : Option Outcome) → IsOpen i.stage → IsStep i j step
    → StandsFor to_head i bytes was → StandsFor to_head j bytes (after was step)
stands_after i j steps.Need to_head bytes None is_open is stands = stands_goes i j to_head bytes None is_open is.0 stands
stands_after i j (steps.Done r) to_head bytes None is_open is stands =
    stands_end i j to_head bytes (a_response r.value) (subst (λ (s : Stage). HasGiven s (a_response r.value)) (sym is.1) refl) is.0 is.2 stands
stands_after i j (steps.Fault fault) to_head bytes None is_open is stands =
    stands_end i j to_head bytes (a_fault fault) (subst (λ (s : Stage). HasGiven s (a_fault fault)) (sym is.1) refl) is.0 is.2 stands
stands_after i j step to_head bytes (Some outcome) is_open is stands = elim (not_both i.stage outcome is_open stands.0) [ ]

answers_end : (i : ReplyReader) (to_head : Bool) (bytes : List ℕ) (outcome : Outcome) → Still i [] i.over outcome → StandsFor to_head i bytes None → ResponseOf to_head bytes i.over outcome
answers_end i to_head bytes outcome still stands =
    subst (λ (b : List ℕ). ResponseOf to_head b i.over outcome) (append-nil bytes) (stands.2 [] i.over outcome (here i.over) still)

-- what a step says
pub answers_after : (i j : ReplyReader) (step : ReplyStep) (to_head : Bool) (bytes : List ℕ) (was : Option Outcome) → IsOpen i.stage → IsStep i j step
    → StandsFor to_head i bytes was → Answers to_head bytes i.over was step
answers_after i j steps.Need to_head bytes None is_open is stands =
    answers_end i to_head bytes a_need (is.0.leads [] i.over a_need (here i.over) (subst (λ (o : Bool). Still j [] o a_need) is.0.over is.1)) stands
answers_after i j (steps.Done r) to_head bytes None is_open is stands = answers_end i to_head bytes (a_response r.value) (is.2 [] i.over (here i.over)) stands
answers_after i j (steps.Fault fault) to_head bytes None is_open is stands = answers_end i to_head bytes (a_fault fault) (is.2 [] i.over (here i.over)) stands
answers_after i j step to_head bytes (Some outcome) is_open is stands = elim (not_both i.stage outcome is_open stands.0) [ ]

-- where a response was given
pub done_again : (i : ReplyReader) (to_head : Bool) (bytes : List ℕ) (was : Option Outcome) → i.stage ≡ Done → StandsFor to_head i bytes was
    → StandsFor to_head i bytes (after was steps.Need) × Answers to_head bytes i.over was steps.Need
done_again i to_head bytes None e stands = elim (subst IsOpen e stands.0) [ ]
done_again i to_head bytes (Some outcome) e stands = (stands, sym (subst (λ (s : Stage). HasGiven s outcome) e stands.0))

-- where a fault was given
pub failed_again : (i : ReplyReader) (fault : BackendFault) (to_head : Bool) (bytes : List ℕ) (was : Option Outcome) → i.stage ≡ Failed fault → StandsFor to_head i bytes was
    → StandsFor to_head i bytes (after was (steps.Fault fault)) × Answers to_head bytes i.over was (steps.Fault fault)
failed_again i fault to_head bytes None e stands = elim (subst IsOpen e stands.0) [ ]
failed_again i fault to_head bytes (Some outcome) e stands = (stands, sym (subst (λ (s : Stage). HasGiven s outcome) e stands.0))

-- what comes at a head
at_head : (i : ReplyReader) (next : List ℕ) (over : Bool) (outcome : Outcome) → i.stage ≡ Head
    → Responds i.to_head i.interims i.taken (i.buffer ++ next) over outcome → Still i next over outcome
at_head i next over outcome e responds = subst (λ (s : Stage). StillAt s i.to_head i.interims i.taken (i.buffer ++ next) over outcome) (sym e) responds

-- a head that isn't whole
pub head_unfinished : (i : ReplyReader) → i.stage ≡ Head → IsCut ends_head 16384 i.buffer part_section → (over : Bool) → Still i [] over (unfinished over)
head_unfinished i head part over =
    at_head i [] over (unfinished over) head (no_head (subst (λ (b : List ℕ). IsCut ends_head 16384 b part_section) (sym (append-nil i.buffer)) part) refl)

-- a head that is too long
pub head_long : (i : ReplyReader) → i.stage ≡ Head → IsCut ends_head 16384 i.buffer long_section → Ends i (a_fault faults.Head)
head_long i head cut = λ next over future.
    at_head i next over (a_fault faults.Head) head (long_head (long_more ends_head 16384 i.buffer next cut))

cut_more : (i : ReplyReader) (count : ℕ) (next : List ℕ) → IsFound ends_head i.buffer (Whole count)
    → IsCut ends_head 16384 (i.buffer ++ next) (whole_section (take count i.buffer) (drop count i.buffer ++ next))
cut_more i count next found = whole_more ends_head 16384 i.buffer (take count i.buffer) (drop count i.buffer) next found.1

-- bytes that are no head
pub head_bad : (i : ReplyReader) (count : ℕ) → i.stage ≡ Head → IsFound ends_head i.buffer (Whole count) → IsHead (take count i.buffer) None → Ends i (a_fault faults.Head)
head_bad i count head found reads = λ next over future.
    at_head i next over (a_fault faults.Head) head (bad_head (take count i.buffer) (drop count i.buffer ++ next) (cut_more i count next found) reads)

-- a head that isn't taken
pub head_refused : (i : ReplyReader) (count : ℕ) (h : PlainHead) → i.stage ≡ Head → IsFound ends_head i.buffer (Whole count) → IsHead (take count i.buffer) (Some h)
    → IsKind i.to_head i.interims h kinds.Refused → Ends i (a_fault faults.Head)
head_refused i count h head found reads (inl refused) = λ next over future.
    at_head i next over (a_fault faults.Head) head
    (refused_head (take count i.buffer) (drop count i.buffer ++ next) h (cut_more i count next found) reads refused)
head_refused i count h head found reads (inr many) = λ next over future.
    at_head i next over (a_fault faults.Head) head
    (many_interim (take count i.buffer) (drop count i.buffer ++ next) h (cut_more i count next found) reads many.0 many.1 many.2)

-- a head that doesn't tell the body's length
pub head_misframed : (i : ReplyReader) (count : ℕ) (h : PlainHead) → i.stage ≡ Head → IsFound ends_head i.buffer (Whole count) → IsHead (take count i.buffer) (Some h)
    → IsKind i.to_head i.interims h kinds.Misframed → Ends i (a_fault faults.Body)
head_misframed i count h head found reads kind = λ next over future.
    at_head i next over (a_fault faults.Body) head
    (misframed (take count i.buffer) (drop count i.buffer ++ next) h (cut_more i count next found) reads kind.0 kind.1 kind.2 kind.3)

-- a response without a body
pub head_bodiless : (i : ReplyReader) (count : ℕ) (h : PlainHead) → i.stage ≡ Head → IsFound ends_head i.buffer (Whole count) → IsHead (take count i.buffer) (Some h)
    → IsKind i.to_head i.interims h kinds.Bodiless → Ends i (a_response (response_of h []))
head_bodiless i count h head found reads kind = λ next over future.
    at_head i next over (a_response (response_of h [])) head
    (bodiless (take count i.buffer) (drop count i.buffer ++ next) h (cut_more i count next found) reads kind.0 kind.1 kind.2 refl)

-- an interim response is dropped
pub goes_past : (i j : ReplyReader) (count : ℕ) (h : PlainHead) → i.stage ≡ Head → IsFound ends_head i.buffer (Whole count) → IsHead (take count i.buffer) (Some h)
    → IsKind i.to_head i.interims h kinds.Interim → j.over ≡ i.over → j.to_head ≡ i.to_head → j.stage ≡ Head → j.interims ≡ i.interims + 1 → j.taken ≡ i.taken + count
    → j.buffer ≡ drop count i.buffer → Goes i j
goes_past i j count h head found reads kind over same stage number taken buffer = record {
  over = over;
  to_head = same;
  stays_open = subst IsOpen (sym stage) tt;
  leads = λ next o outcome future still.
      let size : length (take count i.buffer) ≡ count = length-take-le count i.buffer found.0 in
      let a = subst (λ (s : Stage). StillAt s j.to_head j.interims j.taken (j.buffer ++ next) o outcome) stage still in
      let b = subst (λ (t : Bool). Responds t j.interims j.taken (j.buffer ++ next) o outcome) same a in
      let d = subst (λ (n : ℕ). Responds i.to_head n j.taken (j.buffer ++ next) o outcome) number b in
      let e = subst (λ (n : ℕ). Responds i.to_head (i.interims + 1) n (j.buffer ++ next) o outcome) (taken ∙ ap (λ (n : ℕ). i.taken + n) (sym size)) d in
      let f = subst (λ (l : List ℕ). Responds i.to_head (i.interims + 1) (i.taken + length (take count i.buffer)) (l ++ next) o outcome) buffer e in
      at_head i next o outcome head
      (interim (take count i.buffer) (drop count i.buffer ++ next) h (cut_more i count next found) reads kind.0 kind.1 kind.2 f);
}

-- a body comes behind a head
pub goes_to_body : (i j : ReplyReader) (count : ℕ) (h : PlainHead) → i.stage ≡ Head → IsFound ends_head i.buffer (Whole count) → IsHead (take count i.buffer) (Some h)
    → IsKind i.to_head i.interims h kinds.Bodied → j.over ≡ i.over → j.to_head ≡ i.to_head → j.buffer ≡ drop count i.buffer → IsOpen j.stage
    → ((to_head : Bool) (number taken : ℕ) (bytes : List ℕ) (over : Bool) (outcome : Outcome) → StillAt j.stage to_head number taken bytes over outcome
    → (body : Body) × IsBodyOf (extent_of h.fields) (i.taken + count) bytes over body × (outcome ≡ outcome_of h body over))
    → Goes i j
goes_to_body i j count h head found reads kind over same buffer is_open still_is = record {
  over = over;
  to_head = same;
  stays_open = is_open;
  leads = λ next o outcome future still.
      let size : length (take count i.buffer) ≡ count = length-take-le count i.buffer found.0 in
      let here = subst (λ (l : List ℕ). StillAt j.stage j.to_head j.interims j.taken (l ++ next) o outcome) buffer still in
      let body = still_is j.to_head j.interims j.taken (drop count i.buffer ++ next) o outcome here in
      let is = subst (λ (n : ℕ). IsBodyOf (extent_of h.fields) (i.taken + n) (drop count i.buffer ++ next) o body.0) (sym size) body.1 in
      at_head i next o outcome head
      (bodied (take count i.buffer) (drop count i.buffer ++ next) h body.0 (cut_more i count next found) reads kind.0 kind.1 kind.2 kind.3 is body.2);
}

-- a fault was given
pub step_failed : (i j : ReplyReader) (fault : BackendFault) (step : ReplyStep) → j.over ≡ i.over → j.stage ≡ Failed fault → step ≡ steps.Fault fault
    → Ends i (a_fault fault) → IsStep i j step
step_failed i j fault step over stage is ends = subst (λ (s : ReplyStep). IsStep i j s) (sym is) (over, stage, ends)

-- a response was given
pub step_done : (i j : ReplyReader) (r : Response) (step : ReplyStep) → j.over ≡ i.over → j.stage ≡ Done → seen step ≡ a_response r
    → Ends i (a_response r) → IsStep i j step
step_done i j r steps.Need over stage is ends = absurd (cc)
step_done i j r (steps.Done b) over stage is ends = (over, stage, subst (Ends i) (sym is) ends)
step_done i j r (steps.Fault fault) over stage is ends = absurd (cc)

-- bytes end where a response isn't whole
pub cut_ends : (i : ReplyReader) → i.over ≡ true → ((over : Bool) → Still i [] over (unfinished over)) → Ends i (a_fault faults.Cut)
cut_ends i finished part = λ next over future.
    let f = subst (λ (o : Bool). IsFuture o next over) finished future in
    rw (f.0, f.1) (part true)

-- more bytes are needed
pub needs : (i : ReplyReader) → IsOpen i.stage → i.over ≡ false → ((over : Bool) → Still i [] over (unfinished over)) → IsStep i i steps.Need
needs i is_open over part = (goes_nowhere i is_open, rw over (part false))

-- a step leaves whether all bytes have come
pub step_over : (i j : ReplyReader) (step : ReplyStep) → IsStep i j step → j.over ≡ i.over
step_over i j steps.Need is = is.0.over
step_over i j (steps.Done r) is = is.0
step_over i j (steps.Fault fault) is = is.0

pub reads_open : (s : Stage) → IsReads s → IsOpen s
reads_open Head is = elim is [ ]
reads_open (Reads r reading) is = is
reads_open (ToEnd r) is = is
reads_open Done is = is
reads_open (Failed fault) is = is

-- a head has a byte
head_has_bytes : (bytes : List ℕ) (count : ℕ) → IsFound ends_head bytes (Whole count) → 0 < count
head_has_bytes bytes zero found = let none : false ≡ true = found.1.1 in cc
head_has_bytes bytes (suc n) found = omega arith

-- a head that is taken leaves fewer bytes
pub fewer_left : (bytes : List ℕ) (count : ℕ) → IsFound ends_head bytes (Whole count) → length (drop count bytes) < length bytes
fewer_left bytes count found = omega (arith, head_has_bytes bytes count found, found.0, length-drop count bytes)

-- a head isn't too long
pub few_bytes : (bytes : List ℕ) (count : ℕ) → IsFound ends_head bytes (Whole count) → count ≤ 16384
few_bytes bytes count found = subst (λ (n : ℕ). n ≤ 16384) (length-take-le count bytes found.0) found.1.2

-- what a response comes to is what its head and its body come to
follows_is : (h : PlainHead) (body : Body) (over : Bool) → follows (response_of h []) body over ≡ outcome_of h body over
follows_is h (whole_body body rest) over = refl
follows_is h (bad_body fault) over = refl
follows_is h part_body over = refl

-- a body that ends with the bytes
pub still_to_end : (h : PlainHead) (o : Response) (before : ℕ) (bytes : List ℕ) (over : Bool) (outcome : Outcome) → extent_of h.fields ≡ by_end → o ≡ response_of h []
    → outcome ≡ follows o (body_to_end bytes over) over → (body : Body) × IsBodyOf (extent_of h.fields) before bytes over body × (outcome ≡ outcome_of h body over)
still_to_end h o before bytes over outcome extent opened is = (
  body_to_end bytes over,
  rw extent refl,
  is ∙ ap (λ (r : Response). follows r (body_to_end bytes over) over) opened ∙ follows_is h (body_to_end bytes over) over,
)

-- a body goes on
pub goes_reads : (i : ReplyReader) (o : Box Response Global) (r new : Reading) (before : List ℕ) → i.stage ≡ Reads o new → Leads r before new i.buffer
    → Goes (record i { stage = Reads o r; buffer = before }) i
goes_reads i o r new before is leads = record {
  over = refl;
  to_head = refl;
  stays_open = subst IsOpen (sym is) tt;
  leads = λ next over outcome future still.
      let at = subst (λ (s : Stage). StillAt s i.to_head i.interims i.taken (i.buffer ++ next) over outcome) is still in
      (at.0, leads next at.0 at.1, at.2);
}

-- a body that isn't whole
pub still_reads : (i : ReplyReader) (o : Box Response Global) (new : Reading) → i.stage ≡ Reads o new → Comes new i.buffer part_body → (over : Bool) → Still i [] over (unfinished over)
still_reads i o new is comes over =
    subst (λ (s : Stage). StillAt s i.to_head i.interims i.taken (i.buffer ++ []) over (unfinished over)) (sym is)
    (part_body, subst (λ (b : List ℕ). Comes new b part_body) (sym (append-nil i.buffer)) comes, refl)

if_ok : {A E : Type 0} (P Q : A → Type 0) (r : Result A E) → ((x : A) → P x → Q x) → IfOk r P → IfOk r Q
if_ok P Q (Ok x) f p = f x p
if_ok P Q (Err e) f p = tt

-- what a step says, where there is one
pub answers_of : {E : Type 0} (i j : ReplyReader) (r : Result ReplyStep E) → IsOpen i.stage → IfOk r (IsStep i j)
    → IfOk r (λ step. (to_head : Bool) (bytes : List ℕ) (was : Option Outcome) → StandsFor to_head i bytes was → Answers to_head bytes i.over was step)
answers_of i j r is_open is =
    if_ok (IsStep i j) (λ step. (to_head : Bool) (bytes : List ℕ) (was : Option Outcome) → StandsFor to_head i bytes was → Answers to_head bytes i.over was step) r
    (λ step at to_head bytes was stands. answers_after i j step to_head bytes was is_open at stands) is
