-- A change that finds room is what the line is answered.
use Rattle.std.proofs.Common.{arith}
use Rattle.std.proofs.lemmas.Result.{on_ok_weaker}
use Rattle.gw_store.specs.Events.{a_change}
use Rattle.gw_store.specs.SeenEvents.{seen_event}
use Rattle.gw_report.proofs.Applying.{answers_change}
use Rattle.gw_report.proofs.report.take_line.Goals as goal

pub returns-in-Change-clause-ok : goal.returns-in-Change-clause-ok
returns-in-Change-clause-ok c =
    on_ok_weaker c.change.result (λ done. record {
      read = a_change (seen_event c.in-Change.event);
      is = answers_change _ _ _ (rw c.in-Change.is at c.in_ok-event.ensures) done.0;
      world = done.1;
      skipped = omega arith;
    }) c.change.ensures.ok
