use Rattle.std.proofs.Common.{refl, take, ◌∙◌}
use Rattle.gw_link.specs.Exchanges.{new_exchange, sending}
use Rattle.gw_link.proofs.ExchangeLemmas.{Tells-sends}
use Rattle.gw_exchange.specs.Exchanged.{exchanged}
use Rattle.gw_link.specs.declared.order.UpstreamCall.TheVariants.{Send}
use Rattle.gw_exchange.proofs.Ending.{at_socket, ends_given, refused_wider}
use Rattle.gw_exchange.proofs.backend.converse.Goals as goal

pub returns-in-Ok-clause-ends : goal.returns-in-Ok-clause-ends
returns-in-Ok-clause-ends g c = λ before to tells.
    let r = c.receive_response.ensures.comes in
    let e = exchanged to c.args.bytes.now r.0 r.1.0 in
    (e, (refl, r.1.1.2 before to c.args.bytes.now (Tells-sends _ _ _ _ c.args.bytes.now tells c.in-Ok.ensures.ok), ends_given c.args.bytes.now c.args.head e _ refl r.1.1.0 r.1.1.1))

pub returns-in-Err-clause-ends : goal.returns-in-Err-clause-ends
returns-in-Err-clause-ends g c = λ before to tells.
    let s = c.in-Err.ensures.err in
    (sending (take s.0 c.args.bytes.now) (new_exchange to), (refl, Tells-sends _ _ _ _ (take s.0 c.args.bytes.now) tells s.1.1, (s.0, (s.1.0, refl, refl, refl))))

pub returns-in-Ok-clause-refused : goal.returns-in-Ok-clause-refused
returns-in-Ok-clause-refused g c = λ to at.
    let refuses = g.U.Upstream.refuses in
    let first = c.args.up.now in
    let sent = c.send_whole.new.up in
    let done = c.receive_response.new.up in
    refused_wider (refuses sent done) (refuses first done) to c.receive_response.result
    (λ call refused. g.met.U.Upstream.refuses_later first sent done call to c.send_whole.ensures.goes refused)
    (c.receive_response.ensures.refused to (c.send_whole.ensures.stays ∙ at))

pub returns-in-Err-clause-refused : goal.returns-in-Err-clause-refused
returns-in-Err-clause-refused g c = λ to at. at_socket (g.U.Upstream.refuses c.args.up.now c.send_whole.new.up Send) (g.U.Upstream.at c.args.up.now) to at c.in-Err.ensures.refused
