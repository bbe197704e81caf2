-- An empty table is in order.
use Rattle.std.specs.List.Sorted.{IsStrictlySortedBy}
use Rattle.gw_store.proofs.table.Table.new.Goals as goal

pub invariant_of-result : goal.invariant_of-result
unfolding IsStrictlySortedBy
invariant_of-result g c = rw c.new.ensures.items (record { order = tt; keys = tt })
