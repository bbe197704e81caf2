-- An empty list is in order.
use Rattle.gw_decide.proofs.Places.{nothing_explained}
use Rattle.gw_decide.proofs.reasons.Reasons.new.Goals as goal

pub invariant_of-result : goal.invariant_of-result
invariant_of-result c = rw c.new.ensures.items nothing_explained
