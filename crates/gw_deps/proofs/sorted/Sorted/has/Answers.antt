-- By the item's place.
use Rattle.std.proofs.Common.{sym}
use Rattle.gw_deps.proofs.Sets.{has_standing, has_missing}
use Rattle.gw_deps.proofs.sorted.Sorted.has.Goals as goal

pub returns-in-Ok : goal.returns-in-Ok
returns-in-Ok g c = sym (has_standing g.T.Ordered.order g.T.Ordered.same g.T.Ordered.total g.T.Ordered.ties c.args.item.now _ _ c.in-Ok.ensures.place)

pub returns-in-Err : goal.returns-in-Err
returns-in-Err g c = sym (has_missing g.T.Ordered.order g.T.Ordered.same g.T.Ordered.total g.T.Ordered.ties c.args.item.now _ _ c.in-Err.ensures.place)
