-- What an exchange with a backend comes to, by the calls that failed and the bytes that were given.
use Rattle.std.specs.Prelude.{◌≡◌, ℕ, ◌<◌, ◌≤◌, List, [], ◌++◌, length, take, Bool, false, Option, ⊤, Result, Ok, Err}
use Rattle.gw_text.specs.model.Addresses.{Socket}
use Rattle.gw_link.specs.Exchanges.{Exchange, Tells}
use Rattle.gw_link.specs.declared.order.UpstreamCall.{UpstreamCall}
use Rattle.gw_link.specs.declared.order.UpstreamCall.TheVariants as calls
use Rattle.gw_link.specs.Pieces.{Keeps}
use Rattle.gw_replies.specs.Replies.{IsFuture}
use Rattle.gw_replies.specs.model.Responses.{a_need, a_response, a_fault, Outcome, Response, ResponseOf}
use Rattle.gw_replies.specs.declared.fault.BackendFault.TheVariants.{Open, Send, Receive}
use Rattle.gw_exchange.specs.declared.fault.ExchangeFault.{ExchangeFault}
use Rattle.gw_exchange.specs.declared.fault.ExchangeFault.TheVariants.{Backend, NoMemory}

-- An exchange with a backend.
abbrev pub exchanged : Socket → List ℕ → List ℕ → Bool → Exchange
exchanged to sent given ended = record { to = to; sent = sent; given = given; ended = ended }

-- What bytes come to, whatever bytes come behind them; where they have ended, none do.
abbrev pub ComesTo : Bool → List ℕ → Bool → Outcome → Type 0
ComesTo head given ended outcome = (next : List ℕ) (over : Bool) → IsFuture ended next over → ResponseOf head (given ++ next) over outcome

-- What the bytes given, and whether they ended, come to: a response; the fault that they have; or, where a `receive` failed,
-- nothing yet. Want of memory may come at any bytes.
abbrev pub Comes : Bool → List ℕ → Bool → Result Response ExchangeFault → Type 0
Comes head given ended (Ok r) = ComesTo head given ended (a_response r)
Comes head given ended (Err NoMemory) = ⊤
Comes head given ended (Err (Backend Open)) = ⊥
Comes head given ended (Err (Backend Send)) = ⊥
Comes head given ended (Err (Backend Receive)) = (ended ≡ false) × ResponseOf head given ended a_need
Comes head given ended (Err (Backend fault)) = ComesTo head given ended (a_fault fault)

-- An exchange that is the last one told is told then with these bytes given.
abbrev pub TellsGiven : Option (List Exchange) → List ℕ → Bool → Option (List Exchange) → Type 0
TellsGiven middle given ended after =
    (before : Option (List Exchange)) (to : Socket) (sent : List ℕ) → Tells before (exchanged to sent [] false) middle
    → Tells before (exchanged to sent given ended) after

-- What was received over a connection over which all was sent: at most 64 MiB and one piece.
abbrev pub Received : Bool → Option (List Exchange) → Option (List Exchange) → Result Response ExchangeFault → Type 0
Received head before after result =
    (given : List ℕ) × ((ended : Bool) × (Comes head given ended result × (length given ≤ 67117056) × TellsGiven before given ended after))

-- How an exchange that was opened ends. Where a `send` failed, not all was sent, and nothing was given. Else all was sent, and it
-- comes to what was given: at most 64 MiB and one piece.
abbrev pub Ends : List ℕ → Bool → Exchange → Result Response ExchangeFault → Type 0
Ends bytes head e (Err (Backend Send)) = (n : ℕ) × ((n < length bytes) × (e.sent ≡ take n bytes) × (e.given ≡ []) × (e.ended ≡ false))
Ends bytes head e result = (e.sent ≡ bytes) × Comes head e.given e.ended result × (length e.given ≤ 67117056)

-- What one exchange came to. Where it wasn't opened, no exchange more is told; else one is, at the socket.
abbrev pub Exchanged : Socket → List ℕ → Bool → Option (List Exchange) → Option (List Exchange) → Result Response ExchangeFault → Type 0
Exchanged to bytes head before after (Err (Backend Open)) = Keeps before after
Exchanged to bytes head before after result = (e : Exchange) × ((e.to ≡ to) × Tells before e after × Ends bytes head e result)

-- Where the cause is a call that failed, it failed at the socket.
abbrev pub IsRefused : (UpstreamCall → Socket → Type 0) → Socket → Result Response ExchangeFault → Type 0
IsRefused refuses to (Ok r) = ⊤
IsRefused refuses to (Err NoMemory) = ⊤
IsRefused refuses to (Err (Backend Open)) = refuses calls.Connect to
IsRefused refuses to (Err (Backend Send)) = refuses calls.Send to
IsRefused refuses to (Err (Backend Receive)) = refuses calls.Receive to
IsRefused refuses to (Err (Backend fault)) = ⊤

-- The cause is a call that failed.
abbrev pub IsCallFault : Result Response ExchangeFault → Type 0
IsCallFault (Ok r) = ⊥
IsCallFault (Err NoMemory) = ⊥
IsCallFault (Err (Backend Open)) = ⊤
IsCallFault (Err (Backend Send)) = ⊤
IsCallFault (Err (Backend Receive)) = ⊤
IsCallFault (Err (Backend fault)) = ⊥
