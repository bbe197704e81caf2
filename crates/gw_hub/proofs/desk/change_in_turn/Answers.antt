-- Behind the last line nothing more comes.
use Rattle.std.proofs.Common.{arith}
use Rattle.gw_hub.proofs.Turns.{come_end}
use Rattle.gw_hub.proofs.desk.change_in_turn.Goals as goal

pub returns-clause-come : goal.returns-clause-come
returns-clause-come g c =
    come_end _ _ _ _ _ c.as_slice-line-items.result.now c.lines.line-index (omega (arith, c.lines-test.false, c.lines.auto.line-index-end)) c.lines.invariant.come
