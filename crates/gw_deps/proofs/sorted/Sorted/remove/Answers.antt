-- The item goes from the place that the search finds.
use Rattle.std.proofs.Common.{◌∙◌, ap}
use Rattle.std.proofs.lemmas.List.Kept.{IsStrictlySortedBy-filter}
use Rattle.std.specs.Ordering.{is_ne}
use Rattle.gw_store.proofs.InOrder.{remove_standing, remove_missing}
use Rattle.gw_deps.proofs.Sets.{without}
use Rattle.gw_deps.specs.Sets.{has}
use Rattle.gw_deps.proofs.sorted.Sorted.remove.Goals as goal

pub remove_at-requires-clause-order : goal.remove_at-requires-clause-order
remove_at-requires-clause-order g c =
    let order = g.T.Ordered.order in
    let item = c.args.item.now in
    rw (remove_standing order item _ _ c.in-Ok.ensures.place) (IsStrictlySortedBy-filter order (λ x. is_ne (order x item)) _ c.place.ensures.order)

pub returns-in-Ok-clause-has : goal.returns-in-Ok-clause-has
returns-in-Ok-clause-has g c = λ x.
    rw (c.remove_at.ensures.list, remove_standing g.T.Ordered.order c.args.item.now _ _ c.in-Ok.ensures.place) (without g.T.Ordered.order g.T.Ordered.same g.T.Ordered.total g.T.Ordered.ties c.args.item.now x _)

pub returns-in-Err-clause-has : goal.returns-in-Err-clause-has
returns-in-Err-clause-has g c = λ x.
    ap (has g.T.Ordered.same x) (remove_missing g.T.Ordered.order c.args.item.now _ _ c.in-Err.ensures.place)
    ∙ without g.T.Ordered.order g.T.Ordered.same g.T.Ordered.total g.T.Ordered.ties c.args.item.now x _
