use Rattle.std.specs.Arc.{arc_value}
use Rattle.left_right.specs.Sides.{view}
use Rattle.gw_snap.proofs.Ruling.{reads}
use Rattle.gw_snap.proofs.pass.read_shown.Goals as goal

pub enter_as-requires : goal.enter_as-requires
enter_as-requires g c x = reads (λ x. ∥ g.T.Told.tells (arc_value x.value) x.list.list ∥₁) (λ x. x.list.book) (λ x. g.T.Told.fixed (arc_value x.value)) g.T.Told.blank c.args.reader.place.id (view c.args.reader.place) x
