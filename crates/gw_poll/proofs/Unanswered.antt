-- Of what no backend answered nothing was exchanged, and no call failed.
use Rattle.std.proofs.Common.{◌≡◌, ℕ, Bool, List, [], ◌∷◌, length, Option, Some, None, ap, refl, arith, cond}
use Rattle.gw_answers.specs.model.Decisions.{Action, forwards, replies}
use Rattle.gw_answers.specs.model.Messages.{is_head}
use Rattle.gw_frames.specs.model.Requests.{Request}
use Rattle.gw_link.specs.declared.order.UpstreamCall.{UpstreamCall}
use Rattle.gw_text.specs.model.Addresses.{Socket}
use Rattle.gw_worker.proofs.Deciding.{own_fault}
use Rattle.gw_worker.specs.Exchanges.{AreRefused, Exchanged, ExchangedBy, RefusedBy, call_faults, is_call_fault}
use Rattle.gw_worker.specs.Turns.{AreUnanswered}
use Rattle.gw_worker.specs.model.Sessions.{Answer, Handled, Part, Place, a_close, a_cut, a_refused, a_request, a_wait, decision_at, row_by, row_of, rows_after, rows_of}
use Rattle.gw_poll.proofs.Counting.{faults_append}

none_exchanged : (action : Action) (answer : Option Answer) (head : Bool) → answer ≡ None → ExchangedBy action answer head []
none_exchanged (replies code location fault) answer head none = (none, refl)
none_exchanged (forwards to bytes edits) None head none = refl
none_exchanged (forwards to bytes edits) (Some a) head none = absurd (cc none)

pub own_exchanged : (p : Place) (parts : List Part) → AreUnanswered parts → Exchanged p parts []
own_exchanged p [] all = refl
own_exchanged p (a_request q h ∷ parts) all =
    ([], ([], (refl, none_exchanged (decision_at p q h).action h.answer (is_head q) all.0, own_exchanged p parts all.1)))
own_exchanged p (a_wait ∷ parts) all = ([], ([], (refl, refl, own_exchanged p parts all)))
own_exchanged p (a_refused code ∷ parts) all = ([], ([], (refl, refl, own_exchanged p parts all)))
own_exchanged p (a_close ∷ parts) all = ([], ([], (refl, refl, own_exchanged p parts all)))
own_exchanged p (a_cut ∷ parts) all = ([], ([], (refl, refl, own_exchanged p parts all)))

pub own_refused : (refuses : UpstreamCall → Socket → Type 0) (p : Place) (parts : List Part) → AreUnanswered parts → AreRefused refuses p parts
own_refused refuses p [] all = tt
own_refused refuses p (a_request q h ∷ parts) all = (by (decision_at p q h).action h.answer all.0, own_refused refuses p parts all.1)
  where
    by : (action : Action) (answer : Option Answer) → answer ≡ None → RefusedBy refuses action answer
    by (replies code location fault) answer none = tt
    by (forwards to bytes edits) None none = tt
    by (forwards to bytes edits) (Some a) none = absurd (cc none)
own_refused refuses p (a_wait ∷ parts) all = own_refused refuses p parts all
own_refused refuses p (a_refused code ∷ parts) all = own_refused refuses p parts all
own_refused refuses p (a_close ∷ parts) all = own_refused refuses p parts all
own_refused refuses p (a_cut ∷ parts) all = own_refused refuses p parts all

-- Rows of this program's own replies have no fault of a call.
own_row : (p : Place) (q : Request) (h : Handled) (action : Action) (answer : Option Answer) → (decision_at p q h).action ≡ action → answer ≡ None
    → call_faults (row_by (length h.changes) (decision_at p q h).chosen action answer) ≡ 0
own_row p q h (replies code location fault) answer is none =
    let none_more : ◌≡◌ {A = ℕ} (cond (is_call_fault fault) 1 0) 0 = ap (λ (b : Bool). cond b 1 0) (own_fault (rows_after p h.changes) q h.books code location fault is) in
    omega (arith, none_more)
own_row p q h (forwards to bytes edits) None is none = refl
own_row p q h (forwards to bytes edits) (Some a) is none = absurd (cc none)

pub own_faults : (p : Place) (parts : List Part) → AreUnanswered parts → call_faults (rows_of p parts) ≡ 0
own_faults p [] all = refl
own_faults p (a_request q h ∷ parts) all =
    omega (arith, faults_append (row_of p (a_request q h)) (rows_of p parts), own_row p q h (decision_at p q h).action h.answer refl all.0, own_faults p parts all.1)
own_faults p (a_wait ∷ parts) all = own_faults p parts all
own_faults p (a_refused code ∷ parts) all = own_faults p parts all
own_faults p (a_close ∷ parts) all = own_faults p parts all
own_faults p (a_cut ∷ parts) all = own_faults p parts all
