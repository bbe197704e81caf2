-- The report tells of all lines.
use Rattle.std.proofs.Common.{◌∙◌, ap, nat_lt}
use Rattle.gw_report.proofs.Applying.{status_told}
use Rattle.gw_report.proofs.status.status_output.Goals as goal

pub returns : goal.returns
returns g c =
    let report = c.in_ok-report.ensures in
    record {
      moments = report.moments;
      one_each = record { after = _; in_turn = report.in_turn; each = report.each };
      text_is = c.in_ok-text.ensures ∙ status_told _ _ _ _ report.tells;
      refused_is = ap (λ n. nat_lt 0 n) report.tells.refused;
    }
