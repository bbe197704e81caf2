use Rattle.std.proofs.Common.{ap, ◌∙◌, arith, length, ◌-◌}
use Rattle.std.proofs.Math.ListN.{set}
use Rattle.std.proofs.lemmas.Result.{on_ok_weaker}
use Rattle.gw_link.specs.Exchanges.{Exchange, sending}
use Rattle.gw_link.proofs.ExchangeLemmas.{set_last}
use Rattle.gw_link.proofs.exchange.send_in_last.Goals as goal

pub returns-clause-sent : goal.returns-clause-sent
returns-clause-sent c =
    let last = length c.args.exchanges.now - 1 in
    on_ok_weaker c.send.result
    (λ is. ap (λ (e : Exchange). set c.args.exchanges.now last e) is
    ∙ set_last (sending c.args.piece.now) c.args.exchanges.now c.index-exchanges-last.result last (omega arith))
    c.send.ensures.sent
