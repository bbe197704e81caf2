-- The report tells of all lines.
use Rattle.std.proofs.Common.{◌∙◌, ap, nat_lt}
use Rattle.gw_report.proofs.Applying.{explanation_told}
use Rattle.gw_report.proofs.explanation.explanation_output.Goals as goal

pub returns : goal.returns
returns g c =
    let report = c.in_ok-report.ensures in
    record {
      moments = report.moments;
      one_each = record { after = _; in_turn = report.in_turn; each = report.each };
      text_is = c.in_ok-text.ensures ∙ explanation_told _ _ _ _ report.tells _ _;
      refused_is = ap (λ n. nat_lt 0 n) report.tells.refused;
    }
