use Rattle.gw_exchange.proofs.Ending.{Tells-keeps, exchanged_opened, refused_wider}
use Rattle.gw_exchange.proofs.backend.exchange.Goals as goal

pub returns-clause-comes : goal.returns-clause-comes
returns-clause-comes g c =
    let ends = c.converse-result.ensures.ends (g.U.Upstream.exchanges c.args.up.now) c.args.to c.in-Ok.ensures.opened in
    exchanged_opened c.args.to c.args.bytes.now c.args.head _ _ _ ends.0 ends.1.0 (Tells-keeps _ _ _ _ ends.1.1 c.close.ensures.kept) ends.1.2

pub returns-clause-refused : goal.returns-clause-refused
returns-clause-refused g c =
    let refuses = g.U.Upstream.refuses in
    let first = c.args.up.now in
    let opened = c.connect.new.self in
    let done = c.converse-result.new.up in
    let closed = c.close.new.self in
    refused_wider (refuses opened done) (refuses first closed) c.args.to c.converse-result.result
    (λ call refused. g.met.U.Upstream.refuses_still first done closed call c.args.to
    (g.met.U.Upstream.refuses_later first opened done call c.args.to c.connect.ensures.goes refused) c.close.ensures.goes)
    (c.converse-result.ensures.refused c.args.to c.in-Ok.ensures.connects)
