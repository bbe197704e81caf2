use Rattle.std.proofs.Common.{arith}
use Rattle.gw_labels.proofs.Entries.{value_is}
use Rattle.gw_labels.proofs.labels.Labels.get.Goals as goal

pub returns-in-Some : goal.returns-in-Some
returns-in-Some c = grind (arith, value_is c.args.key.now c.self.inside.entries.entries, c.get.ensures.value)

pub returns-in-None : goal.returns-in-None
returns-in-None c = grind (arith, value_is c.args.key.now c.self.inside.entries.entries, c.get.ensures.value)
