-- The item goes to the place that the search finds.
use Rattle.gw_store.proofs.InOrder.{ordered_put, put_missing}
use Rattle.gw_deps.proofs.Sets.{any_insert, put_there}
use Rattle.gw_deps.proofs.sorted.Sorted.put.Goals as goal

pub insert-requires-clause-order : goal.insert-requires-clause-order
insert-requires-clause-order g c =
    rw (put_missing g.T.Ordered.order c.args.item _ _ c.in-Err.ensures.place) (ordered_put g.T.Ordered.order g.T.Ordered.total c.args.item _ c.place.ensures.order)

pub returns-in-Ok-clause-has : goal.returns-in-Ok-clause-has
returns-in-Ok-clause-has g c = λ x. put_there g.T.Ordered.order g.T.Ordered.same g.T.Ordered.total g.T.Ordered.ties c.args.item x _ _ c.in-Ok.ensures.place

pub returns-in-Err-clause-has : goal.returns-in-Err-clause-has
returns-in-Err-clause-has g c = λ x. rw c.insert.ensures.list (any_insert (λ y. g.T.Ordered.same y x) _ _ _ c.in-Err.ensures.range)
