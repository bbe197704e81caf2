-- Nothing is in order.
use Rattle.std.specs.List.Sorted.{IsStrictlySortedBy}
use Rattle.gw_stamp.proofs.stamps.Stamps.new.Goals as goal

pub invariant_of-result : goal.invariant_of-result
unfolding IsStrictlySortedBy
invariant_of-result c = rw c.new.ensures tt
