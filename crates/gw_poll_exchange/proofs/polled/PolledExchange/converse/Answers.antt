-- What is left of the bytes is sent, and the response is received.
use Rattle.std.proofs.Common.{◌∙◌, ap, is_some}
use Rattle.gw_link.specs.declared.order.UpstreamCall.TheVariants.{Send}
use Rattle.gw_exchange.proofs.Ending.{at_socket, refused_wider}
use Rattle.gw_poll_exchange.proofs.Ending.{goes_received, goes_sent, open_of, over_received, over_unsent, pending_map, ready_map}
use Rattle.gw_poll_exchange.proofs.Staying.{up_then}
use Rattle.gw_poll_exchange.proofs.polled.PolledExchange.converse.Goals as goal

pub send_on-requires-clause-connected : goal.send_on-requires-clause-connected
send_on-requires-clause-connected g c = ap is_some c.requires.at

pub send_on-requires-clause-within : goal.send_on-requires-clause-within
send_on-requires-clause-within g c = rw c.bytes.ensures (open_of c.args.self.now c.requires.begun.0 c.requires.begun.1 c.requires.connected).within

pub receive-requires-clause-connected : goal.receive-requires-clause-connected
receive-requires-clause-connected g c = ap is_some (c.send_on.ensures.stays ∙ c.requires.at)

pub receive-requires-clause-begun : goal.receive-requires-clause-begun
receive-requires-clause-begun g c =
    let o = open_of c.args.self.now c.requires.begun.0 c.requires.begun.1 c.requires.connected in
    (c.args.self.now.head, (o.given, o.reads))

pub returns-in-Ready-Ok-clause-on : goal.returns-in-Ready-Ok-clause-on
returns-in-Ready-Ok-clause-on g c = pending_map c.receive.result (λ on met stands.
    let x = c.args.self.now in
    let o = open_of x met stands c.requires.connected in
    goes_received x met c.send_on.new.sent c.receive.new.reader _ _ _ o c.requires.connected c.send_on.ensures.later
    (rw c.bytes.ensures at (rw c.in-Ready-Ok.field-0-is at c.in-Ready-Ok.ensures.whole)) (rw c.bytes.ensures at c.send_on.ensures.sends) (on x.head o.given o.reads))
    c.receive.ensures.on

pub returns-in-Ready-Ok-clause-over : goal.returns-in-Ready-Ok-clause-over
returns-in-Ready-Ok-clause-over g c = ready_map c.receive.result (λ answer over met stands.
    let x = c.args.self.now in
    let o = open_of x met stands c.requires.connected in
    over_received x met c.send_on.new.sent _ _ _ answer o c.send_on.ensures.later
    (rw c.bytes.ensures at (rw c.in-Ready-Ok.field-0-is at c.in-Ready-Ok.ensures.whole)) (rw c.bytes.ensures at c.send_on.ensures.sends) (over x.head o.given o.reads))
    c.receive.ensures.over

pub returns-in-Ready-Ok-clause-refused : goal.returns-in-Ready-Ok-clause-refused
returns-in-Ready-Ok-clause-refused g c = ready_map c.receive.result (λ answer refused.
    let refuses = g.U.PollUpstream.refuses in
    let first = c.args.up.now in
    let sent = c.send_on.new.up in
    let done = c.receive.new.up in
    let to = c.args.self.now.to in
    refused_wider (refuses sent done) (refuses first done) to answer
    (λ call is. g.met.U.PollUpstream.refuses_later first sent done call to c.send_on.ensures.goes is)
    (refused to (c.send_on.ensures.stays ∙ c.requires.at)))
    c.receive.ensures.refused

pub returns-in-Ready-Err-clause-over : goal.returns-in-Ready-Err-clause-over
returns-in-Ready-Err-clause-over g c = λ met stands.
    let x = c.args.self.now in
    let o = open_of x met stands c.requires.connected in
    over_unsent x met c.send_on.new.sent _ _ o c.send_on.ensures.later
    (rw c.bytes.ensures at (rw c.in-Ready-Err.field-0-is at c.in-Ready-Err.ensures.rest)) (rw c.bytes.ensures at c.send_on.ensures.sends)

pub returns-in-Ready-Err-clause-refused : goal.returns-in-Ready-Err-clause-refused
returns-in-Ready-Err-clause-refused g c =
    at_socket (g.U.PollUpstream.refuses c.args.up.now c.send_on.new.up Send) (g.U.PollUpstream.at c.args.up.now) c.args.self.now.to c.requires.at (rw c.in-Ready-Err.field-0-is at c.in-Ready-Err.ensures.refused)

pub returns-in-Pending-clause-on : goal.returns-in-Pending-clause-on
returns-in-Pending-clause-on g c = λ met stands.
    let x = c.args.self.now in
    let o = open_of x met stands c.requires.connected in
    goes_sent x met c.send_on.new.sent _ _ o c.requires.connected c.send_on.ensures.later
    (rw c.bytes.ensures at c.send_on.ensures.within) (rw c.bytes.ensures at c.send_on.ensures.sends)

pub returns-in-Ready-Ok-clause-up : goal.returns-in-Ready-Ok-clause-up
returns-in-Ready-Ok-clause-up g c =
    up_then g.U.PollUpstream g.met.U.PollUpstream.becomes_then _ _ _
    (record { becomes = c.send_on.ensures.goes; unmarked = c.send_on.ensures.unmarked; same = c.send_on.ensures.same; later = c.send_on.ensures.counts.later; waits = c.send_on.ensures.waits.later }) c.receive.ensures.up
