use Rattle.std.proofs.Common.{Bool, subst}
use Rattle.gw_exchange.specs.Exchanged.{Received}
use Rattle.gw_exchange.proofs.backend.receive_response.Goals as goal

pub returns-clause-comes : goal.returns-clause-comes
returns-clause-comes g c =
    subst (λ (head : Bool). Received head (g.U.Upstream.exchanges c.args.up.now) (g.U.Upstream.exchanges c.receive_by.new.up) c.receive_by.result)
    c.new-reader.ensures.stands.1 c.receive_by.ensures.comes
