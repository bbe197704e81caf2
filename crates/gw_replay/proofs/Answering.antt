-- What backends in memory answer, by what they were told.
use Rattle.std.proofs.Common.{◌≡◌, ◌∙◌, ℕ, ◌<◌, Bool, true, false, List, [], ◌∷◌, ◌++◌, length, codes, drop, if◌then◌else◌, Option, Some, None, Ok, Err, refl, sym, ap, subst, arith, length-append, append-nil, inl, inr}
use Rattle.std.specs.Prelude.{⊤}
use Rattle.std.specs.List.{flat_map}
use Rattle.std.specs.Option.{option_map_or}
use Rattle.std.proofs.lemmas.List.{take-append-drop}
use Rattle.gw_answers.specs.declared.books.Books.{Books}
use Rattle.gw_answers.specs.model.Decisions.{Action, Chosen, by_backend, by_endpoint, by_state, by_verdict, decision_of, forwards, picked_backend, redirected, replied, replies, routed}
use Rattle.gw_answers.specs.model.Messages.{forward_of, is_head}
use Rattle.gw_decide.specs.model.Verdicts.{Verdict, choose, not_found, nothing, redirect, redirect_in, verdict_of}
use Rattle.gw_exchange.specs.Exchanged.{ComesTo, IsRefused}
use Rattle.gw_exchange.proofs.Limits.{nothing_yet}
use Rattle.gw_frames.specs.model.Requests.{Request}
use Rattle.gw_link.specs.Exchanges.{Exchange}
use Rattle.gw_link.specs.Upstreams.{Refuses, UpstreamState, answer_at, fails_at}
use Rattle.gw_link.specs.declared.order.Order.{Order}
use Rattle.gw_link.specs.declared.order.UpstreamCall.{UpstreamCall}
use Rattle.gw_link.specs.declared.order.UpstreamCall.TheVariants as calls
use Rattle.gw_link.proofs.ScriptLemmas.{AreScripted, IsScripted}
use Rattle.gw_message_laws.proofs.ResponseLaws.{outcome_unique}
use Rattle.gw_replies.specs.declared.fault.BackendFault.{BackendFault}
use Rattle.gw_replies.specs.declared.fault.BackendFault.TheVariants as faults
use Rattle.gw_replies.specs.declared.fault.FaultName.TheVariants.{NoBackend}
use Rattle.gw_replies.specs.model.Responses.{Outcome, Response, ResponseOf, a_fault, a_need, a_response}
use Rattle.gw_replies.specs.model.Written.{close_line, ended_line, field_line, field_lines, forward, length_line, message, only_if, via_line}
use Rattle.gw_rows.specs.model.Rows.{Row, Rows}
use Rattle.gw_text.specs.model.Addresses.{Socket}
use Rattle.gw_text.specs.model.Fields.{Field}
use Rattle.gw_text.specs.model.Filters.{Redirect}
use Rattle.gw_text.specs.model.Matches.{PathMatch}
use Rattle.gw_text.specs.model.Plans.{Backend, Plan}
use Rattle.gw_text.specs.model.References.{BackendState, bad_protocol, invalid_kind, no_endpoints, not_found as no_service, not_permitted, ready}
use Rattle.gw_worker.specs.Conns.{AreWhole, IsReplied}
use Rattle.gw_worker.specs.Exchanges.{AreRefused, Exchanged, ExchangedBy, IsExchanged, RefusedBy, as_given}
use Rattle.gw_worker.specs.model.Sessions.{Answer, Part, Place, a_close, a_cut, a_refused, a_request, a_wait, decision_at, rows_after}
use Rattle.gw_replay.specs.Replays.{AnswersBy, AnswersSo, AreAnswered, IsAnswered, outcome_of}
use Rattle.gw_replay.specs.States.{AreBackends}

some_message : (lines : List (List ℕ)) (body : List ℕ) → 0 < length (message lines body)
some_message lines body =
    omega (arith, length-append (flat_map ended_line lines ++ ended_line []) body, length-append (flat_map ended_line lines) (ended_line []))

some_forward : (method target host : List ℕ) (minor : ℕ) (fields : List Field) (body : List ℕ) (framed : Bool) → 0 < length (forward method target host minor fields body framed)
unfolding forward
some_forward method target host minor fields body framed =
    some_message
    ((method ++ codes " " ++ target ++ codes " HTTP/1.1") ∷ field_line (codes "host") host ∷ field_lines fields
    ++ via_line minor ∷ only_if framed (length_line (length body)) ++ close_line ∷ [])
    (if framed then body else [])

some_forwarded : (plan : Plan) (b : Backend) (m : PathMatch) (q : Request) → 0 < length (forward_of plan b m q)
unfolding forward_of
some_forwarded plan b m q = some_forward _ _ _ _ _ _ _

-- What is sent to a backend isn't empty.
abbrev IsSome : Action → Type 0
IsSome (replies code location fault) = ⊤
IsSome (forwards to bytes edits) = 0 < length bytes

some_endpoint : (chosen : Chosen) (row : Row) (q : Request) (b : Backend) (to : Option Socket) → IsSome (by_endpoint chosen row q b to).action
some_endpoint chosen row q b None = tt
some_endpoint chosen row q b (Some to) = some_forwarded row.plan b row.test.path q

some_state : (chosen : Chosen) (row : Row) (q : Request) (books : Books) (b : Backend) (s : BackendState) → IsSome (by_state chosen row q books b s).action
some_state chosen row q books b invalid_kind = tt
some_state chosen row q books b not_permitted = tt
some_state chosen row q books b no_service = tt
some_state chosen row q books b bad_protocol = tt
some_state chosen row q books b no_endpoints = tt
some_state chosen row q books b (ready sockets) = some_endpoint chosen row q b _

some_backend : (chosen : Chosen) (row : Row) (q : Request) (books : Books) (b : Option Backend) → IsSome (by_backend chosen row q books b).action
some_backend chosen row q books None = tt
some_backend chosen row q books (Some b) = some_state _ row q books b b.state

some_verdict : (listener : Option (List ℕ)) (q : Request) (books : Books) (v : Verdict) → IsSome (by_verdict listener q books v).action
some_verdict listener q books not_found = tt
some_verdict listener q books (redirect row) = by_redirect (redirect_in row.plan)
  where
    by_redirect : (r : Option Redirect) → IsSome (option_map_or (redirected (routed listener row) row q) r (replied (routed listener row) 500 (Some NoBackend))).action
    by_redirect None = tt
    by_redirect (Some r) = tt
some_verdict listener q books (nothing row) = tt
some_verdict listener q books (choose row) = some_backend (routed listener row) row q books (picked_backend row books)

some_decision : (rows : Rows) (q : Request) (books : Books) → IsSome (decision_of rows q books).action
unfolding decision_of
some_decision rows q books = some_verdict _ q books (verdict_of rows q)

-- a call that failed is one that fails at its socket
fails_so : (orders : List Order) (up up' : UpstreamState) (call : UpstreamCall) (to : Socket) → AreBackends up orders → up'.starved ≡ 0 → Refuses up up' call to → fails_at call to orders ≡ true
fails_so orders up up' call to b none (inl fails) = subst (λ (list : List Order). fails_at call to list ≡ true) b.orders_are fails
fails_so orders up up' call to b none (inr (inl listed)) = absurd (omega (arith, listed, ap length b.unlisted))
fails_so orders up up' call to b none (inr (inr (inl rose))) = absurd (omega (arith, rose, none))
fails_so orders up up' call to b none (inr (inr (inr full))) = absurd (omega (arith, full, none))

not_both : (t : Bool) → t ≡ false → t ≡ true → ⊥
not_both t first second = let both : false ≡ true = sym first ∙ second in absurd (cc both)

by_test : (t : Bool) → (t ≡ true → ⊥) → t ≡ false
by_test true never = absurd (never refl)
by_test false never = refl

-- bytes were sent, so sending doesn't fail there
sends_there : (orders : List Order) (to : Socket) (bytes : List ℕ) (e : Exchange) → IsScripted orders e → e.to ≡ to → e.sent ≡ bytes → 0 < length bytes → fails_at calls.Send to orders ≡ false
sends_there orders to bytes e s at sent some =
    by_test (fails_at calls.Send to orders) (λ fails.
    let none : e.sent ≡ [] = s.unsent (subst (λ (x : Socket). fails_at calls.Send x orders ≡ true) (sym at) fails) in
    absurd (omega (arith, some, ap length (sym sent ∙ none))))

opens_there : (orders : List Order) (to : Socket) (e : Exchange) → IsScripted orders e → e.to ≡ to → fails_at calls.Connect to orders ≡ false
opens_there orders to e s at = subst (λ (x : Socket). fails_at calls.Connect x orders ≡ false) at s.opened

-- what was given came to something, so receiving doesn't fail there
receives_there : (orders : List Order) (to : Socket) (head : Bool) (e : Exchange) (outcome : Outcome) → IsScripted orders e → e.to ≡ to → ComesTo head e.given e.ended outcome
    → (outcome ≡ a_need → ⊥) → fails_at calls.Receive to orders ≡ false
receives_there orders to head e outcome s at comes some =
    by_test (fails_at calls.Receive to orders) (λ fails.
    let none = s.unreceived (subst (λ (x : Socket). fails_at calls.Receive x orders ≡ true) (sym at) fails) in
    let empty : ComesTo head [] false outcome = subst (λ (over : Bool). ComesTo head [] over outcome) none.1 (subst (λ (given : List ℕ). ComesTo head given e.ended outcome) none.0 comes) in
    some (outcome_unique head [] false outcome a_need (empty [] false tt) (nothing_yet head)))

-- what was given is what all that the backend gives comes to
comes_whole : (orders : List Order) (to : Socket) (head : Bool) (e : Exchange) (outcome : Outcome) → IsScripted orders e → e.to ≡ to → ComesTo head e.given e.ended outcome
    → ResponseOf head (answer_at to orders) true outcome
comes_whole orders to head e outcome s at comes = subst (λ (x : Socket). ResponseOf head (answer_at x orders) true outcome) at (by e.ended refl)
  where
    by : (over : Bool) → e.ended ≡ over → ResponseOf head (answer_at e.to orders) true outcome
    by true is =
        subst (λ (l : List ℕ). ResponseOf head l true outcome) (append-nil e.given ∙ s.ended is)
        (subst (λ (over : Bool). ComesTo head e.given over outcome) is comes [] true (refl, refl))
    by false is =
        subst (λ (l : List ℕ). ResponseOf head l true outcome)
        (ap (λ (l : List ℕ). l ++ drop (length e.given) (answer_at e.to orders)) s.given ∙ take-append-drop (length e.given) (answer_at e.to orders))
        (subst (λ (over : Bool). ComesTo head e.given over outcome) is comes (drop (length e.given) (answer_at e.to orders)) true tt)

-- where no call fails, the answer is what the bytes come to
answers_whole : (orders : List Order) (to : Socket) (head : Bool) (bytes : List ℕ) (e : Exchange) (a : Answer) (outcome : Outcome) → IsScripted orders e → e.to ≡ to → e.sent ≡ bytes → 0 < length bytes
    → ComesTo head e.given e.ended outcome → (outcome ≡ a_need → ⊥) → outcome_of a ≡ outcome → AnswersBy orders to head a
answers_whole orders to head bytes e a outcome s at sent some comes not_need is =
    subst (λ (first : Bool). AnswersSo first (fails_at calls.Send to orders) (fails_at calls.Receive to orders) (answer_at to orders) head a) (sym (opens_there orders to e s at))
    (subst (λ (second : Bool). AnswersSo false second (fails_at calls.Receive to orders) (answer_at to orders) head a) (sym (sends_there orders to bytes e s at sent some))
    (subst (λ (third : Bool). AnswersSo false false third (answer_at to orders) head a) (sym (receives_there orders to head e outcome s at comes not_need))
    (subst (λ (o : Outcome). ResponseOf head (answer_at to orders) true o) (sym is) (comes_whole orders to head e outcome s at comes))))

response_no_need : (r : Response) → a_response r ≡ a_need → ⊥
response_no_need r is = absurd (cc is)

fault_no_need : (f : BackendFault) → a_fault f ≡ a_need → ⊥
fault_no_need f is = absurd (cc is)

-- the first of the exchanges is so
first_scripted : (orders : List Order) (met : List Exchange) (e : Exchange) → met ≡ e ∷ [] → AreScripted orders met → IsScripted orders e
first_scripted orders met e is all = (subst (AreScripted orders) is all).0

-- what a backend answered is what it was told
answers_so : (orders : List Order) (up up' : UpstreamState) (to : Socket) (bytes : List ℕ) (head : Bool) (met : List Exchange) (a : Answer) → AreBackends up orders → up'.starved ≡ 0
    → 0 < length bytes → AreScripted orders met → IsExchanged to bytes head (as_given a) met → IsRefused (Refuses up up') to (as_given a) → AnswersBy orders to head a
answers_so orders up up' to bytes head met (Err faults.Open) b none some all made refused =
    subst (λ (first : Bool). AnswersSo first (fails_at calls.Send to orders) (fails_at calls.Receive to orders) (answer_at to orders) head (Err faults.Open))
    (sym (fails_so orders up up' calls.Connect to b none refused)) refl
answers_so orders up up' to bytes head met (Err faults.Send) b none some all made refused =
    let s : IsScripted orders made.0 = first_scripted orders met made.0 made.1.0 all in
    subst (λ (first : Bool). AnswersSo first (fails_at calls.Send to orders) (fails_at calls.Receive to orders) (answer_at to orders) head (Err faults.Send)) (sym (opens_there orders to made.0 s made.1.1))
    (subst (λ (second : Bool). AnswersSo false second (fails_at calls.Receive to orders) (answer_at to orders) head (Err faults.Send)) (sym (fails_so orders up up' calls.Send to b none refused)) refl)
answers_so orders up up' to bytes head met (Err faults.Receive) b none some all made refused =
    let s : IsScripted orders made.0 = first_scripted orders met made.0 made.1.0 all in
    subst (λ (first : Bool). AnswersSo first (fails_at calls.Send to orders) (fails_at calls.Receive to orders) (answer_at to orders) head (Err faults.Receive)) (sym (opens_there orders to made.0 s made.1.1))
    (subst (λ (second : Bool). AnswersSo false second (fails_at calls.Receive to orders) (answer_at to orders) head (Err faults.Receive)) (sym (sends_there orders to bytes made.0 s made.1.1 made.1.2.0 some))
    (subst (λ (third : Bool). AnswersSo false false third (answer_at to orders) head (Err faults.Receive)) (sym (fails_so orders up up' calls.Receive to b none refused)) refl))
answers_so orders up up' to bytes head met (Ok r) b none some all made refused =
    answers_whole orders to head bytes made.0 (Ok r) (a_response r) (first_scripted orders met made.0 made.1.0 all) made.1.1 made.1.2.0 some made.1.2.1 (response_no_need r) refl
answers_so orders up up' to bytes head met (Err faults.Head) b none some all made refused =
    answers_whole orders to head bytes made.0 (Err faults.Head) (a_fault faults.Head) (first_scripted orders met made.0 made.1.0 all) made.1.1 made.1.2.0 some made.1.2.1 (fault_no_need faults.Head) refl
answers_so orders up up' to bytes head met (Err faults.Body) b none some all made refused =
    answers_whole orders to head bytes made.0 (Err faults.Body) (a_fault faults.Body) (first_scripted orders met made.0 made.1.0 all) made.1.1 made.1.2.0 some made.1.2.1 (fault_no_need faults.Body) refl
answers_so orders up up' to bytes head met (Err faults.TooBig) b none some all made refused =
    answers_whole orders to head bytes made.0 (Err faults.TooBig) (a_fault faults.TooBig) (first_scripted orders met made.0 made.1.0 all) made.1.1 made.1.2.0 some made.1.2.1 (fault_no_need faults.TooBig) refl
answers_so orders up up' to bytes head met (Err faults.Cut) b none some all made refused =
    answers_whole orders to head bytes made.0 (Err faults.Cut) (a_fault faults.Cut) (first_scripted orders met made.0 made.1.0 all) made.1.1 made.1.2.0 some made.1.2.1 (fault_no_need faults.Cut) refl

-- one request
answered_so : (orders : List Order) (up up' : UpstreamState) (action : Action) (answer : Option Answer) (head : Bool) (met : List Exchange) → AreBackends up orders → up'.starved ≡ 0
    → IsSome action → IsReplied action answer → AreScripted orders met → ExchangedBy action answer head met → RefusedBy (Refuses up up') action answer → IsAnswered orders action head answer
answered_so orders up up' (replies code location fault) answer head met b none some whole all made refused = made.0
answered_so orders up up' (forwards to bytes edits) None head met b none some whole all made refused = absurd whole
answered_so orders up up' (forwards to bytes edits) (Some a) head met b none some whole all made refused = answers_so orders up up' to bytes head met a b none some all made refused

scripted_front : (orders : List Order) (xs ys : List Exchange) → AreScripted orders (xs ++ ys) → AreScripted orders xs
scripted_front orders [] ys all = tt
scripted_front orders (x ∷ xs) ys all = (all.0, scripted_front orders xs ys all.1)

scripted_rest : (orders : List Order) (xs ys : List Exchange) → AreScripted orders (xs ++ ys) → AreScripted orders ys
scripted_rest orders [] ys all = all
scripted_rest orders (x ∷ xs) ys all = scripted_rest orders xs ys all.1

-- Each request has the answer that its backend was told.
pub all_answered : (orders : List Order) (up up' : UpstreamState) (p : Place) (parts : List Part) (met : List Exchange) → AreBackends up orders → up'.starved ≡ 0 → AreWhole p parts
    → AreScripted orders met → Exchanged p parts met → AreRefused (Refuses up up') p parts → AreAnswered orders p parts
all_answered orders up up' p [] met b none whole all made refused = tt
all_answered orders up up' p (a_request q h ∷ parts) met b none whole all made refused =
    let split : AreScripted orders (made.0 ++ made.1.0) = subst (AreScripted orders) made.1.1.0 all in (
      answered_so orders up up' (decision_at p q h).action h.answer (is_head q) made.0 b none (some_decision (rows_after p h.changes) q h.books) whole.0
          (scripted_front orders made.0 made.1.0 split) made.1.1.1 refused.0,
      all_answered orders up up' p parts made.1.0 b none whole.1 (scripted_rest orders made.0 made.1.0 split) made.1.1.2 refused.1,
    )
all_answered orders up up' p (a_wait ∷ parts) met b none whole all made refused =
    all_answered orders up up' p parts made.1.0 b none whole.1 (scripted_rest orders made.0 made.1.0 (subst (AreScripted orders) made.1.1.0 all)) made.1.1.2 refused
all_answered orders up up' p (a_refused code ∷ parts) met b none whole all made refused =
    all_answered orders up up' p parts made.1.0 b none whole.1 (scripted_rest orders made.0 made.1.0 (subst (AreScripted orders) made.1.1.0 all)) made.1.1.2 refused
all_answered orders up up' p (a_close ∷ parts) met b none whole all made refused =
    all_answered orders up up' p parts made.1.0 b none whole.1 (scripted_rest orders made.0 made.1.0 (subst (AreScripted orders) made.1.1.0 all)) made.1.1.2 refused
all_answered orders up up' p (a_cut ∷ parts) met b none whole all made refused =
    all_answered orders up up' p parts made.1.0 b none whole.1 (scripted_rest orders made.0 made.1.0 (subst (AreScripted orders) made.1.1.0 all)) made.1.1.2 refused
