use Rattle.std.proofs.Common.{◌∙◌}
use Rattle.gw_labels.proofs.Entries.{any_is}
use Rattle.gw_labels.proofs.selector.is_one_of.Goals as goal

pub returns-in-Some : goal.returns-in-Some
returns-in-Some c = rw c.in-Some.is (c.contains.ensures ∙ any_is c.in-Some.value.now c.args.values.now)
