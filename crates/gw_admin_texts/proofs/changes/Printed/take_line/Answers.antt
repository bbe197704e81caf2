-- No answer is left.
use Rattle.gw_admin_texts.proofs.Lines.{none_left}
use Rattle.gw_admin_texts.proofs.changes.Printed.take_line.Goals as goal

pub returns-in_default-clause-left : goal.returns-in_default-clause-left
returns-in_default-clause-left c = λ lines. none_left c.args.number c.args.line.now lines c.args.answers.now c.in_default.ensures.cases
