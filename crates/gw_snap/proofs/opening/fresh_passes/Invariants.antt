use Rattle.std.proofs.Common.{◌≡◌}
use Rattle.left_right.specs.Sides.{view}
use Rattle.gw_snap.specs.Lists.{copies, fresh}
use Rattle.gw_snap.proofs.opening.fresh_passes.Given as goal

abbrev pub invariant-places : goal.invariant-places
invariant-places g l = (view l.writer.desk.place ≡ view l.fn.writer.desk.place) × (l.writer.desk.shown ≡ l.fn.writer.desk.shown)
    × (l.passes.items ≡ copies l._place (fresh (view l.fn.writer.desk.place).fixed l.seen.book))
