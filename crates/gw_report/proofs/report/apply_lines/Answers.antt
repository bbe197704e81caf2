-- One line more.
use Rattle.std.proofs.Common.{arith}
use Rattle.gw_report.proofs.Applying.{applies_more, left_size-shorter}
use Rattle.gw_report.proofs.report.apply_lines.Goals as goal

pub lines-preserved : goal.lines-preserved
lines-preserved g c =
    let done = c.in_ok-apply_line.ensures in
    let shorter = left_size-shorter c.first_line.result.1 c.in-Some.text.now c.first_line.ensures.shorter in
    let few = rw c.in-Some.is at c.lines.invariant.few in
    let report = rw (c.in-Some.is, c.first_line.ensures.cut) at c.lines.invariant.report in
    record {
      report = λ after new later. report after new (applies_more _ _ _ _ _ _ _ _ _ done.applies later);
      few = omega (arith, shorter, few);
      few_counted = omega (arith, done.few);
    }
