-- A text that is in lower case.
use Rattle.std.proofs.Common.{sym, ◌∙◌}
use Rattle.std.proofs.lemmas.Result.{IfOk-weaker}
use Rattle.gw_frames.proofs.Judging.{lower_already}
use Rattle.gw_frames.proofs.judgment.lower.Goals as goal

pub returns-then-is_lower : goal.returns-then-is_lower
returns-then-is_lower c =
    IfOk-weaker c.from_bytes.result _ _ (λ text is. is ∙ sym (lower_already c.args.text.now (sym c.is_lower.ensures ∙ c.if-is_lower.true))) c.from_bytes.ensures
