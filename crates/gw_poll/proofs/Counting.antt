-- Counts that have risen, and calls that failed, over several stretches.
use Rattle.std.proofs.Common.{◌≡◌, ℕ, ◌+◌, ◌≤◌, inl, inr, List, [], ◌∷◌, ◌++◌, Option, Some, None, Ok, Err, ap, sym, subst, ◌∙◌, arith, cond}
use Rattle.std.proofs.lemmas.List.Sums.{sum_by-append}
use Rattle.gw_answers.specs.model.Decisions.{Action, Chosen, forwards, replies}
use Rattle.gw_answers.specs.model.ServedRows.{ServedRow}
use Rattle.gw_exchange.proofs.Ending.{refused_wider}
use Rattle.gw_exchange.specs.Exchanged.{IsCallFault}
use Rattle.gw_link.specs.Faults.{HasRisen}
use Rattle.gw_link.specs.declared.order.UpstreamCall.{UpstreamCall}
use Rattle.gw_replies.specs.declared.fault.BackendFault.TheVariants as faults
use Rattle.gw_text.specs.model.Addresses.{Socket}
use Rattle.gw_text.specs.model.Filters.{Edits}
use Rattle.gw_worker.proofs.Parts.{rows_append}
use Rattle.gw_worker.specs.Exchanges.{AreRefused, HasRisenBy, RefusedBy, as_given, call_faults, is_call_fault}
use Rattle.gw_worker.specs.model.Sessions.{Answer, Part, Place, a_close, a_cut, a_refused, a_request, a_wait, decision_at, row_by as row_of_answer, rows_of}

risen_then : (m n a b c : ℕ) → HasRisenBy m a b → HasRisenBy n b c → HasRisenBy (m + n) a c
risen_then m n a b c (inl first) (inl second) = inl (omega (arith, first, second))
risen_then m n a b c (inl first) (inr last) = inr last
risen_then m n a b c (inr last) (inl second) = inr (omega (arith, last, second))
risen_then m n a b c (inr last) (inr later) = inr later

pub faults_append : (xs ys : List ServedRow) → call_faults (xs ++ ys) ≡ call_faults xs + call_faults ys
faults_append xs ys = sum_by-append (λ (row : ServedRow). cond (is_call_fault row.fault) 1 0) xs ys

-- The faults of both stretches are counted.
pub faults_then : (p : Place) (xs ys : List Part) (a b c : ℕ) → HasRisenBy (call_faults (rows_of p xs)) a b → HasRisenBy (call_faults (rows_of p ys)) b c
    → HasRisenBy (call_faults (rows_of p (xs ++ ys))) a c
faults_then p xs ys a b c first second =
    subst (λ (n : ℕ). HasRisenBy n a c)
    (sym (ap call_faults (rows_append p xs ys) ∙ faults_append (rows_of p xs) (rows_of p ys)))
    (risen_then (call_faults (rows_of p xs)) (call_faults (rows_of p ys)) a b c first second)

-- A row for what a backend answered has such a fault only where a call failed.
pub faults_answered : (front : ℕ) (chosen : Chosen) (to : Socket) (bytes : List ℕ) (edits : List Edits) (a : Answer) (f f' : ℕ) → f ≤ f' → (IsCallFault (as_given a) → HasRisen f f')
    → HasRisenBy (call_faults (row_of_answer front chosen (forwards to bytes edits) (Some a) ++ [])) f f'
faults_answered front chosen to bytes edits (Ok r) f f' later cause = inl (omega (arith, later))
faults_answered front chosen to bytes edits (Err faults.Open) f f' later cause = by (cause tt)
  where
    by : HasRisen f f' → HasRisenBy 1 f f'
    by (inl less) = inl (omega (arith, less))
    by (inr last) = inr last
faults_answered front chosen to bytes edits (Err faults.Send) f f' later cause = by (cause tt)
  where
    by : HasRisen f f' → HasRisenBy 1 f f'
    by (inl less) = inl (omega (arith, less))
    by (inr last) = inr last
faults_answered front chosen to bytes edits (Err faults.Receive) f f' later cause = by (cause tt)
  where
    by : HasRisen f f' → HasRisenBy 1 f f'
    by (inl less) = inl (omega (arith, less))
    by (inr last) = inr last
faults_answered front chosen to bytes edits (Err faults.Head) f f' later cause = inl (omega (arith, later))
faults_answered front chosen to bytes edits (Err faults.Body) f f' later cause = inl (omega (arith, later))
faults_answered front chosen to bytes edits (Err faults.TooBig) f f' later cause = inl (omega (arith, later))
faults_answered front chosen to bytes edits (Err faults.Cut) f f' later cause = inl (omega (arith, later))

-- A call that failed did so for whoever sees more calls.
refused_by_wider : (refuses wider : UpstreamCall → Socket → Type 0) (action : Action) (answer : Option Answer)
    → ((call : UpstreamCall) (to : Socket) → refuses call to → wider call to) → RefusedBy refuses action answer → RefusedBy wider action answer
refused_by_wider refuses wider (replies code location fault) answer more is = tt
refused_by_wider refuses wider (forwards to bytes edits) None more is = tt
refused_by_wider refuses wider (forwards to bytes edits) (Some a) more is = refused_wider refuses wider to (as_given a) (λ call. more call to) is

pub refused_all : (refuses wider : UpstreamCall → Socket → Type 0) (p : Place) (parts : List Part)
    → ((call : UpstreamCall) (to : Socket) → refuses call to → wider call to) → AreRefused refuses p parts → AreRefused wider p parts
refused_all refuses wider p [] more all = tt
refused_all refuses wider p (a_request q h ∷ parts) more all =
    (refused_by_wider refuses wider (decision_at p q h).action h.answer more all.0, refused_all refuses wider p parts more all.1)
refused_all refuses wider p (a_wait ∷ parts) more all = refused_all refuses wider p parts more all
refused_all refuses wider p (a_refused code ∷ parts) more all = refused_all refuses wider p parts more all
refused_all refuses wider p (a_close ∷ parts) more all = refused_all refuses wider p parts more all
refused_all refuses wider p (a_cut ∷ parts) more all = refused_all refuses wider p parts more all

refused_append : (refuses : UpstreamCall → Socket → Type 0) (p : Place) (xs ys : List Part) → AreRefused refuses p xs → AreRefused refuses p ys → AreRefused refuses p (xs ++ ys)
refused_append refuses p [] ys first second = second
refused_append refuses p (a_request q h ∷ xs) ys first second = (first.0, refused_append refuses p xs ys first.1 second)
refused_append refuses p (a_wait ∷ xs) ys first second = refused_append refuses p xs ys first second
refused_append refuses p (a_refused code ∷ xs) ys first second = refused_append refuses p xs ys first second
refused_append refuses p (a_close ∷ xs) ys first second = refused_append refuses p xs ys first second
refused_append refuses p (a_cut ∷ xs) ys first second = refused_append refuses p xs ys first second

-- The calls of both stretches, for whoever sees all calls.
pub refused_then : (first second wider : UpstreamCall → Socket → Type 0) (p : Place) (xs ys : List Part)
    → ((call : UpstreamCall) (to : Socket) → first call to → wider call to) → ((call : UpstreamCall) (to : Socket) → second call to → wider call to)
    → AreRefused first p xs → AreRefused second p ys → AreRefused wider p (xs ++ ys)
refused_then first second wider p xs ys still later one two =
    refused_append wider p xs ys (refused_all first wider p xs still one) (refused_all second wider p ys later two)
