-- What was exchanged with backends.
use Rattle.std.specs.Prelude.{◌≡◌, ◌⊎◌, ◌+◌, ◌≤◌, ℕ, List, [], ◌∷◌, ◌++◌, Bool, true, false, Option, Some, None, IfSome, Result, Ok, Err, count_by, ⊤}
use Rattle.gw_answers.specs.model.Decisions.{Action, forwards, replies}
use Rattle.gw_answers.specs.model.Messages.{is_head}
use Rattle.gw_answers.specs.model.ServedRows.{ServedRow}
use Rattle.gw_exchange.specs.Exchanged.{Ends, IsRefused}
use Rattle.gw_exchange.specs.declared.fault.ExchangeFault.{ExchangeFault}
use Rattle.gw_exchange.specs.declared.fault.ExchangeFault.TheVariants.{Backend as OfBackend}
use Rattle.gw_link.specs.Exchanges.{Exchange}
use Rattle.gw_link.specs.Faults.{last_count}
use Rattle.gw_link.specs.declared.order.UpstreamCall.{UpstreamCall}
use Rattle.gw_replies.specs.declared.fault.BackendFault.TheVariants.{Open, Send, Receive, Head, Body, TooBig, Cut}
use Rattle.gw_replies.specs.declared.fault.FaultName.{FaultName}
use Rattle.gw_replies.specs.declared.fault.FaultName.TheVariants.{NoBackend, InvalidKind, RefNotPermitted, BackendNotFound, UnsupportedProtocol, NoEndpoints, Backend}
use Rattle.gw_replies.specs.model.Responses.{Response}
use Rattle.gw_text.specs.model.Addresses.{Socket}
use Rattle.gw_worker.specs.model.Sessions.{Answer, Part, Place, a_close, a_cut, a_refused, a_request, a_wait, decision_at}

-- What a backend answered, as an exchange gives it.
abbrev pub as_given : Answer → Result Response ExchangeFault
as_given (Ok r) = Ok r
as_given (Err fault) = Err (OfBackend fault)

-- What was exchanged for bytes sent to a socket: nothing where no connection was opened; else one exchange, at the socket, with the
-- bytes that were sent, and the answer is what the bytes given come to.
abbrev pub IsExchanged : Socket → List ℕ → Bool → Result Response ExchangeFault → List Exchange → Type 0
IsExchanged to bytes head (Err (OfBackend Open)) met = met ≡ []
IsExchanged to bytes head result met = (e : Exchange) × ((met ≡ e ∷ []) × (e.to ≡ to) × Ends bytes head e result)

-- What was exchanged for what is done about a request. One that goes to no backend has no answer of a backend.
abbrev pub ExchangedBy : Action → Option Answer → Bool → List Exchange → Type 0
ExchangedBy (replies code location fault) answer head met = (answer ≡ None) × (met ≡ [])
ExchangedBy (forwards to bytes edits) None head met = met ≡ []
ExchangedBy (forwards to bytes edits) (Some a) head met = IsExchanged to bytes head (as_given a) met

-- What was exchanged for one thing that came of a connection's bytes.
abbrev pub PartExchanged : Place → Part → List Exchange → Type 0
PartExchanged p (a_request q h) met = ExchangedBy (decision_at p q h).action h.answer (is_head q) met
PartExchanged p a_wait met = met ≡ []
PartExchanged p (a_refused code) met = met ≡ []
PartExchanged p a_close met = met ≡ []
PartExchanged p a_cut met = met ≡ []

-- What was exchanged, request by request in their order.
abbrev pub Exchanged : Place → List Part → List Exchange → Type 0
Exchanged p [] met = met ≡ []
Exchanged p (part ∷ parts) met =
    (first : List Exchange) × ((rest : List Exchange) × ((met ≡ first ++ rest) × PartExchanged p part first × Exchanged p parts rest))

-- Where a backend's answer is a call that failed, that call failed at the backend's socket.
abbrev pub RefusedBy : (UpstreamCall → Socket → Type 0) → Action → Option Answer → Type 0
RefusedBy refuses (replies code location fault) answer = ⊤
RefusedBy refuses (forwards to bytes edits) None = ⊤
RefusedBy refuses (forwards to bytes edits) (Some a) = IsRefused refuses to (as_given a)

-- The same of each request.
abbrev pub AreRefused : (UpstreamCall → Socket → Type 0) → Place → List Part → Type 0
AreRefused refuses p [] = ⊤
AreRefused refuses p (a_request q h ∷ parts) = RefusedBy refuses (decision_at p q h).action h.answer × AreRefused refuses p parts
AreRefused refuses p (a_wait ∷ parts) = AreRefused refuses p parts
AreRefused refuses p (a_refused code ∷ parts) = AreRefused refuses p parts
AreRefused refuses p (a_close ∷ parts) = AreRefused refuses p parts
AreRefused refuses p (a_cut ∷ parts) = AreRefused refuses p parts

-- These exchanges more are told. Of an upstream that doesn't tell, None, nothing is said.
abbrev pub TellsAll : Option (List Exchange) → List Exchange → Option (List Exchange) → Type 0
TellsAll before met after = IfSome before (λ told. after ≡ Some (told ++ met))

-- The cause of a row's fault is a call of the upstream that failed.
abbrev pub is_call_fault : Option FaultName → Bool
is_call_fault None = false
is_call_fault (Some NoBackend) = false
is_call_fault (Some InvalidKind) = false
is_call_fault (Some RefNotPermitted) = false
is_call_fault (Some BackendNotFound) = false
is_call_fault (Some UnsupportedProtocol) = false
is_call_fault (Some NoEndpoints) = false
is_call_fault (Some (Backend Open)) = true
is_call_fault (Some (Backend Send)) = true
is_call_fault (Some (Backend Receive)) = true
is_call_fault (Some (Backend Head)) = false
is_call_fault (Some (Backend Body)) = false
is_call_fault (Some (Backend TooBig)) = false
is_call_fault (Some (Backend Cut)) = false

-- How many rows have such a fault.
abbrev pub call_faults : List ServedRow → ℕ
call_faults rows = count_by (λ row. is_call_fault row.fault) rows

-- A count has risen by this number at least. One that stands at its last number counts as risen by any number.
abbrev pub HasRisenBy : ℕ → ℕ → ℕ → Type 0
HasRisenBy n before now = (before + n ≤ now) ⊎ (last_count ≤ now)
