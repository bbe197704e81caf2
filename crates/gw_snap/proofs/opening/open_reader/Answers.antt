use Rattle.std.specs.Arc.{arc_value}
use Rattle.left_right.specs.Sides.{view}
use Rattle.gw_snap.proofs.Ruling.{admits, forks, merges}
use Rattle.gw_snap.proofs.opening.open_reader.Goals as goal

pub reader-requires : goal.reader-requires
reader-requires g c = admits (λ x. ∥ g.T.Told.tells (arc_value x.value) x.list.list ∥₁) (λ x. x.list.book) (λ x. g.T.Told.fixed (arc_value x.value)) g.T.Told.blank

pub tell-requires : goal.tell-requires
tell-requires g c = forks (λ x. ∥ g.T.Told.tells (arc_value x.value) x.list.list ∥₁) (λ x. x.list.book) (λ x. g.T.Told.fixed (arc_value x.value)) g.T.Told.blank _ _

pub learn-requires-clause-rule : goal.learn-requires-clause-rule
learn-requires-clause-rule g c = merges (λ x. ∥ g.T.Told.tells (arc_value x.value) x.list.list ∥₁) (λ x. x.list.book) (λ x. g.T.Told.fixed (arc_value x.value)) g.T.Told.blank _ _ _ _
