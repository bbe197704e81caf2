-- What a line does, by what it is answered.
use Rattle.std.proofs.Common.{sym, ◌∙◌}
use Rattle.std.proofs.lemmas.Result.{on_ok_weaker}
use Rattle.gw_report.proofs.Applying.{applies_taken, applies_refused, fails_is}
use Rattle.gw_report.proofs.report.apply_line.Goals as goal

pub returns-in-Ok-clause-applies : goal.returns-in-Ok-clause-applies
returns-in-Ok-clause-applies g c =
    applies_taken _ _ _ (sym c.is_blank.ensures ∙ c.if-is_blank.false) c.now-now.ensures _ _ c.take_line.ensures.text c.take_line.ensures.refused c.in-Ok.ensures.ok

pub returns-in-Err-clause-applies : goal.returns-in-Err-clause-applies
returns-in-Err-clause-applies g c =
    on_ok_weaker c.refuse.result (λ done. applies_refused _ _ _ (sym c.is_blank.ensures ∙ c.if-is_blank.false) c.now-now.ensures _ _ _ _
    (fails_is _ _ done.named c.in-Err.ensures.err) c.in-Err.ensures.kept c.in-Err.ensures.skipped c.take_line.ensures.text c.take_line.ensures.refused done) c.refuse.ensures.ok
