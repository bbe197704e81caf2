-- An end names no worker and no door.
use Rattle.std.proofs.Common.{rules}
use Rattle.gw_script.proofs.form.step.Goals as goal

pub returns-in-end-clause-within : goal.returns-in-end-clause-within
returns-in-end-clause-within c = search (rules, c.end.ensures.within c.args.workers c.args.doors)
