-- The Route is counted where it is attached.
use Rattle.gw_eval.proofs.Counting.{numbers_of_entries}
use Rattle.gw_eval.proofs.routes.counted_entries.Goals as goal

pub returns-clause-numbers : goal.returns-clause-numbers
returns-clause-numbers c =
    numbers_of_entries c.args.world.now.world c.args.counts.now c.count_route.new.self c.in_ok-all.all.items _
    (rw c.as_slice.ensures.value at c.count_route.ensures) c.in_ok-all.ensures.placed c.in_ok-all.ensures.entries
