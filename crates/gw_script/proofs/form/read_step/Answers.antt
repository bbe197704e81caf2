-- A line that is no event's, by whether it is text.
use Rattle.gw_script.proofs.Lines.{text_step, other_step}
use Rattle.gw_script.proofs.form.read_step.Goals as goal

pub returns-in-Ok-clause-step : goal.returns-in-Ok-clause-step
returns-in-Ok-clause-step c =
    let text = c.in-Ok.ensures.cases in
    text_step c.args.workers c.args.doors c.args.line.now c.in_default.ensures.cases c.if-line-gt-MAX_LINE.false _ text.1 (rw text.0 at c.step.ensures.step)

pub returns-in-Err-clause-step : goal.returns-in-Err-clause-step
returns-in-Err-clause-step c =
    other_step c.args.workers c.args.doors c.args.line.now c.in_default.ensures.cases c.if-line-gt-MAX_LINE.false c.in-Err.ensures.cases.0
