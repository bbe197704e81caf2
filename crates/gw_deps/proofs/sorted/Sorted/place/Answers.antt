-- The search answers by the order of the items.
use Rattle.std.proofs.Common.{rules}
use Rattle.std.proofs.lemmas.Fn.{always_returns_same}
use Rattle.gw_store.proofs.InOrder.{found}
use Rattle.gw_deps.proofs.sorted.Sorted.place.Goals as goal

pub returns-clause-place : goal.returns-clause-place
returns-clause-place g c =
    let item = c.args.item.now in
    rw (← c.as_slice.ensures.value) (found g.T.Ordered.order g.T.Ordered.total item c.as_slice.result.now c.binary_search_by.result c.as_slice.ensures.order c.binary_search_by.ensures.bound
    (c.binary_search_by.ensures.position (λ x. g.T.Ordered.order x item) (always_returns_same _ _ _ (λ a r q k. search rules))))
