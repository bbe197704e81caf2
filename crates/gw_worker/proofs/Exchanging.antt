-- What an exchange says of an answer.
use Rattle.std.proofs.Common.{◌≡◌, ◌⊎◌, ◌∙◌, ℕ, Bool, List, [], ◌∷◌, ◌++◌, length, take, take_all, Option, Some, None, Ok, Err, ap, refl, sym, append-nil, arith, inl, inr}
use Rattle.gw_answers.specs.model.Decisions.{Action, forwards, replies}
use Rattle.gw_exchange.proofs.Ending.{refused_wider}
use Rattle.gw_exchange.specs.Exchanged.{Exchanged, IsCallFault, IsRefused}
use Rattle.gw_exchange.specs.declared.fault.ExchangeFault.TheVariants.{NoMemory}
use Rattle.gw_link.specs.Exchanges.{Exchange}
use Rattle.gw_link.specs.Faults.{HasRisen}
use Rattle.gw_link.specs.Pieces.{Keeps}
use Rattle.gw_link.specs.declared.order.UpstreamCall.{UpstreamCall}
use Rattle.gw_replies.specs.declared.fault.BackendFault.TheVariants as faults
use Rattle.gw_text.specs.model.Addresses.{Socket}
use Rattle.gw_worker.specs.Exchanges.{AreRefused, IsExchanged, RefusedBy, TellsAll, as_given}
use Rattle.gw_worker.specs.Flows.{Meets, TellsOne, outside}
use Rattle.gw_worker.specs.model.Sessions.{Answer, Part, Place, a_close, a_cut, a_refused, a_request, a_wait, decision_at}

tells_none : (before after : Option (List Exchange)) → Keeps before after → TellsAll before [] after
tells_none None after kept = tt
tells_none (Some told) after kept = kept ∙ ap Some (sym (append-nil told))

pub meets_by : (refuses : UpstreamCall → Socket → Type 0) (to : Socket) (bytes : List ℕ) (head : Bool) (before after : Option (List Exchange)) (count now : ℕ) (answer : Answer)
    → Exchanged to bytes head before after (as_given answer) → (IsCallFault (as_given answer) → HasRisen count now) → IsRefused refuses to (as_given answer)
    → Meets refuses to bytes head answer (outside None before count) (outside None after now)
meets_by refuses to bytes head before after count now (Ok r) made cause refused = (made.0 ∷ [], ((made.0, (refl, made.1.0, made.1.2)), made.1.1, (λ is. absurd (cc is)), refused))
meets_by refuses to bytes head before after count now (Err faults.Open) made cause refused = ([], (refl, tells_none before after made, (λ is. cause tt), refused))
meets_by refuses to bytes head before after count now (Err faults.Send) made cause refused = (made.0 ∷ [], ((made.0, (refl, made.1.0, made.1.2)), made.1.1, (λ is. cause tt), refused))
meets_by refuses to bytes head before after count now (Err faults.Receive) made cause refused = (made.0 ∷ [], ((made.0, (refl, made.1.0, made.1.2)), made.1.1, (λ is. cause tt), refused))
meets_by refuses to bytes head before after count now (Err faults.Head) made cause refused = (made.0 ∷ [], ((made.0, (refl, made.1.0, made.1.2)), made.1.1, (λ is. absurd (cc is)), refused))
meets_by refuses to bytes head before after count now (Err faults.Body) made cause refused = (made.0 ∷ [], ((made.0, (refl, made.1.0, made.1.2)), made.1.1, (λ is. absurd (cc is)), refused))
meets_by refuses to bytes head before after count now (Err faults.TooBig) made cause refused = (made.0 ∷ [], ((made.0, (refl, made.1.0, made.1.2)), made.1.1, (λ is. absurd (cc is)), refused))
meets_by refuses to bytes head before after count now (Err faults.Cut) made cause refused = (made.0 ∷ [], ((made.0, (refl, made.1.0, made.1.2)), made.1.1, (λ is. absurd (cc is)), refused))

pub tells_one : (to : Socket) (bytes : List ℕ) (head : Bool) (before after : Option (List Exchange)) → Exchanged to bytes head before after (Err NoMemory)
    → TellsOne to bytes before after
tells_one to bytes head before after made = (made.0, (made.1.0, made.1.2.0, made.1.1))

-- At most one exchange, at the socket, in which a front of the bytes was sent.
abbrev pub AtMostOne : Socket → List ℕ → List Exchange → Type 0
AtMostOne to bytes met = (met ≡ []) ⊎ ((e : Exchange) × ((n : ℕ) × ((met ≡ e ∷ []) × (e.to ≡ to) × (e.sent ≡ take n bytes))))

pub whole_sent : (to : Socket) (bytes : List ℕ) (met : List Exchange) (e : Exchange) → met ≡ e ∷ [] → e.to ≡ to → e.sent ≡ bytes → AtMostOne to bytes met
whole_sent to bytes met e is at sent = inr (e, (length bytes, (is, at, sent ∙ sym (take_all (length bytes) bytes (omega arith)))))

-- What is exchanged for an answer is at most one exchange.
pub at_most_one : (to : Socket) (bytes : List ℕ) (head : Bool) (answer : Answer) (met : List Exchange) → IsExchanged to bytes head (as_given answer) met → AtMostOne to bytes met
at_most_one to bytes head (Ok r) met made = whole_sent to bytes met made.0 made.1.0 made.1.1 made.1.2.0
at_most_one to bytes head (Err faults.Open) met made = inl made
at_most_one to bytes head (Err faults.Send) met made = inr (made.0, (made.1.2.0, (made.1.0, made.1.1, made.1.2.1.1)))
at_most_one to bytes head (Err faults.Receive) met made = whole_sent to bytes met made.0 made.1.0 made.1.1 made.1.2.0
at_most_one to bytes head (Err faults.Head) met made = whole_sent to bytes met made.0 made.1.0 made.1.1 made.1.2.0
at_most_one to bytes head (Err faults.Body) met made = whole_sent to bytes met made.0 made.1.0 made.1.1 made.1.2.0
at_most_one to bytes head (Err faults.TooBig) met made = whole_sent to bytes met made.0 made.1.0 made.1.1 made.1.2.0
at_most_one to bytes head (Err faults.Cut) met made = whole_sent to bytes met made.0 made.1.0 made.1.1 made.1.2.0

-- A call that failed did so for whoever sees more calls.
refused_by_wider : (refuses wider : UpstreamCall → Socket → Type 0) (action : Action) (answer : Option Answer)
    → ((call : UpstreamCall) (to : Socket) → refuses call to → wider call to) → RefusedBy refuses action answer → RefusedBy wider action answer
refused_by_wider refuses wider (replies code location fault) answer more is = tt
refused_by_wider refuses wider (forwards to bytes edits) None more is = tt
refused_by_wider refuses wider (forwards to bytes edits) (Some a) more is = refused_wider refuses wider to (as_given a) (λ call. more call to) is

pub refused_all : (refuses wider : UpstreamCall → Socket → Type 0) (p : Place) (parts : List Part)
    → ((call : UpstreamCall) (to : Socket) → refuses call to → wider call to) → AreRefused refuses p parts → AreRefused wider p parts
refused_all refuses wider p [] more all = tt
refused_all refuses wider p (a_request q h ∷ parts) more all =
    (refused_by_wider refuses wider (decision_at p q h).action h.answer more all.0, refused_all refuses wider p parts more all.1)
refused_all refuses wider p (a_wait ∷ parts) more all = refused_all refuses wider p parts more all
refused_all refuses wider p (a_refused code ∷ parts) more all = refused_all refuses wider p parts more all
refused_all refuses wider p (a_close ∷ parts) more all = refused_all refuses wider p parts more all
refused_all refuses wider p (a_cut ∷ parts) more all = refused_all refuses wider p parts more all

pub refused_append : (refuses : UpstreamCall → Socket → Type 0) (p : Place) (xs ys : List Part) → AreRefused refuses p xs → AreRefused refuses p ys → AreRefused refuses p (xs ++ ys)
refused_append refuses p [] ys first second = second
refused_append refuses p (a_request q h ∷ xs) ys first second = (first.0, refused_append refuses p xs ys first.1 second)
refused_append refuses p (a_wait ∷ xs) ys first second = refused_append refuses p xs ys first second
refused_append refuses p (a_refused code ∷ xs) ys first second = refused_append refuses p xs ys first second
refused_append refuses p (a_close ∷ xs) ys first second = refused_append refuses p xs ys first second
refused_append refuses p (a_cut ∷ xs) ys first second = refused_append refuses p xs ys first second

-- Both, for whoever sees all calls.
pub refused_then : (first second wider : UpstreamCall → Socket → Type 0) (p : Place) (xs ys : List Part)
    → ((call : UpstreamCall) (to : Socket) → first call to → wider call to) → ((call : UpstreamCall) (to : Socket) → second call to → wider call to)
    → AreRefused first p xs → AreRefused second p ys → AreRefused wider p (xs ++ ys)
refused_then first second wider p xs ys still later one two =
    refused_append wider p xs ys (refused_all first wider p xs still one) (refused_all second wider p ys later two)
