use Rattle.std.proofs.Common.{ap, ◌∙◌, arith, length, ◌-◌}
use Rattle.std.proofs.Math.ListN.{set}
use Rattle.std.proofs.lemmas.Result.{on_ok_weaker}
use Rattle.gw_link.specs.Exchanges.{Exchange, receiving}
use Rattle.gw_link.proofs.ExchangeLemmas.{set_last}
use Rattle.gw_link.proofs.exchange.receive_in_last.Goals as goal

pub returns-clause-given : goal.returns-clause-given
returns-clause-given c =
    let last = length c.args.exchanges.now - 1 in
    on_ok_weaker c.receive.result
    (λ is. ap (λ (e : Exchange). set c.args.exchanges.now last e) is
    ∙ set_last (receiving c.args.piece.now) c.args.exchanges.now c.index-exchanges-last.result last (omega arith))
    c.receive.ensures.given
