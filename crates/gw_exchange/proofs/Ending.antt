-- How an exchange ends, from what was given in it.
use Rattle.std.proofs.Common.{◌≡◌, ◌∙◌, ℕ, ◌≤◌, List, length, Bool, Option, Some, None, IfSome, Result, Ok, Err, subst}
use Rattle.gw_text.specs.model.Addresses.{Socket}
use Rattle.gw_link.specs.Exchanges.{Exchange, Tells}
use Rattle.gw_link.specs.Pieces.{Keeps}
use Rattle.gw_link.specs.declared.order.UpstreamCall.{UpstreamCall}
use Rattle.gw_link.specs.declared.order.UpstreamCall.TheVariants as calls
use Rattle.gw_replies.specs.declared.fault.BackendFault.{BackendFault}
use Rattle.gw_replies.specs.declared.fault.BackendFault.TheVariants as faults
use Rattle.gw_replies.specs.model.Responses.{Response, a_fault}
use Rattle.gw_exchange.specs.declared.fault.ExchangeFault.{ExchangeFault}
use Rattle.gw_exchange.specs.declared.fault.ExchangeFault.TheVariants.{Backend, NoMemory}
use Rattle.gw_exchange.specs.Exchanged.{Comes, ComesTo, Ends, Exchanged, IsCallFault, IsRefused}
use Rattle.gw_exchange.proofs.Limits.{IsByteFault}

-- A fault of the bytes is what they come to.
pub comes_fault : (head : Bool) (given : List ℕ) (ended : Bool) (fault : BackendFault) → IsByteFault fault
    → ComesTo head given ended (a_fault fault) → Comes head given ended (Err (Backend fault))
comes_fault head given ended faults.Open byte is = absurd byte
comes_fault head given ended faults.Send byte is = absurd byte
comes_fault head given ended faults.Receive byte is = absurd byte
comes_fault head given ended faults.Head byte is = is
comes_fault head given ended faults.Body byte is = is
comes_fault head given ended faults.TooBig byte is = is
comes_fault head given ended faults.Cut byte is = is

-- A fault of the bytes is no call's.
pub no_call : (fault : BackendFault) → IsByteFault fault → IsCallFault (Err (Backend fault)) → ⊥
no_call faults.Open byte is = absurd byte
no_call faults.Send byte is = absurd byte
no_call faults.Receive byte is = absurd byte
no_call faults.Head byte is = is
no_call faults.Body byte is = is
no_call faults.TooBig byte is = is
no_call faults.Cut byte is = is

-- A fault of the bytes is refused by no call.
pub none_refused : (refuses : UpstreamCall → Socket → Type 0) (to : Socket) (fault : BackendFault) → IsByteFault fault → IsRefused refuses to (Err (Backend fault))
none_refused refuses to faults.Open byte = absurd byte
none_refused refuses to faults.Send byte = absurd byte
none_refused refuses to faults.Receive byte = absurd byte
none_refused refuses to faults.Head byte = tt
none_refused refuses to faults.Body byte = tt
none_refused refuses to faults.TooBig byte = tt
none_refused refuses to faults.Cut byte = tt

-- A call that failed did so for whoever sees more calls.
pub refused_wider : (refuses wider : UpstreamCall → Socket → Type 0) (to : Socket) (result : Result Response ExchangeFault)
    → ((call : UpstreamCall) → refuses call to → wider call to) → IsRefused refuses to result → IsRefused wider to result
refused_wider refuses wider to (Ok r) more is = tt
refused_wider refuses wider to (Err NoMemory) more is = tt
refused_wider refuses wider to (Err (Backend faults.Open)) more is = more calls.Connect is
refused_wider refuses wider to (Err (Backend faults.Send)) more is = more calls.Send is
refused_wider refuses wider to (Err (Backend faults.Receive)) more is = more calls.Receive is
refused_wider refuses wider to (Err (Backend faults.Head)) more is = tt
refused_wider refuses wider to (Err (Backend faults.Body)) more is = tt
refused_wider refuses wider to (Err (Backend faults.TooBig)) more is = tt
refused_wider refuses wider to (Err (Backend faults.Cut)) more is = tt

-- What is said of the socket of a connection, where that is known.
pub at_socket : (P : Socket → Type 0) (at : Option Socket) (to : Socket) → at ≡ Some to → IfSome at P → P to
at_socket P None to is here = absurd (cc is)
at_socket P (Some s) to is here = let same : s ≡ to = cc is in subst P same here

-- An exchange over which all was sent ends as what was given says.
pub ends_given : (bytes : List ℕ) (head : Bool) (e : Exchange) (result : Result Response ExchangeFault) → e.sent ≡ bytes
    → Comes head e.given e.ended result → length e.given ≤ 67117056 → Ends bytes head e result
ends_given bytes head e (Ok r) sent comes few = (sent, comes, few)
ends_given bytes head e (Err NoMemory) sent comes few = (sent, comes, few)
ends_given bytes head e (Err (Backend faults.Open)) sent comes few = absurd comes
ends_given bytes head e (Err (Backend faults.Send)) sent comes few = absurd comes
ends_given bytes head e (Err (Backend faults.Receive)) sent comes few = (sent, comes, few)
ends_given bytes head e (Err (Backend faults.Head)) sent comes few = (sent, comes, few)
ends_given bytes head e (Err (Backend faults.Body)) sent comes few = (sent, comes, few)
ends_given bytes head e (Err (Backend faults.TooBig)) sent comes few = (sent, comes, few)
ends_given bytes head e (Err (Backend faults.Cut)) sent comes few = (sent, comes, few)

-- One exchange more is told where it was opened.
pub exchanged_opened : (to : Socket) (bytes : List ℕ) (head : Bool) (before after : Option (List Exchange)) (result : Result Response ExchangeFault)
    → (e : Exchange) → e.to ≡ to → Tells before e after → Ends bytes head e result → Exchanged to bytes head before after result
exchanged_opened to bytes head before after (Ok r) e at tells ends = (e, (at, tells, ends))
exchanged_opened to bytes head before after (Err NoMemory) e at tells ends = (e, (at, tells, ends))
exchanged_opened to bytes head before after (Err (Backend faults.Open)) e at tells ends = absurd ends.1
exchanged_opened to bytes head before after (Err (Backend faults.Send)) e at tells ends = (e, (at, tells, ends))
exchanged_opened to bytes head before after (Err (Backend faults.Receive)) e at tells ends = (e, (at, tells, ends))
exchanged_opened to bytes head before after (Err (Backend faults.Head)) e at tells ends = (e, (at, tells, ends))
exchanged_opened to bytes head before after (Err (Backend faults.Body)) e at tells ends = (e, (at, tells, ends))
exchanged_opened to bytes head before after (Err (Backend faults.TooBig)) e at tells ends = (e, (at, tells, ends))
exchanged_opened to bytes head before after (Err (Backend faults.Cut)) e at tells ends = (e, (at, tells, ends))

-- What is told stays where it is kept.
pub Tells-keeps : (before middle after : Option (List Exchange)) (e : Exchange) → Tells before e middle → Keeps middle after → Tells before e after
Tells-keeps None middle after e tells keeps = tt
Tells-keeps (Some told) None after e tells keeps = absurd (cc tells)
Tells-keeps (Some told) (Some middle) after e tells keeps = keeps ∙ tells
