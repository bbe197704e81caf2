-- Where the turn isn't the last, the numbers have one more.
use Rattle.gw_weight.proofs.Equal.{after-turn}
use Rattle.gw_weight.proofs.turns.turn_after.Goals as goal

pub returns-else-next-count-clause-drawn : goal.returns-else-next-count-clause-drawn
returns-else-next-count-clause-drawn c = after-turn c.args.count c.args.turn c.requires c.if-next-count.false
