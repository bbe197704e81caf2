-- The Routes are the same.
use Rattle.std.proofs.Common.{refl}
use Rattle.std.specs.Arc.{arc_value}
use Rattle.gw_kept.proofs.Holding.{has_rows, have_plans, held_again}
use Rattle.gw_kept.proofs.held.KeptRoutes.with_gateway.Goals as goal

pub doors_anew-requires-clause-plans : goal.doors_anew-requires-clause-plans
doors_anew-requires-clause-plans c = have_plans (arc_value c.self.inside.controller) c.self.inside.kept c.self.invariant.evaluated

pub doors_anew-requires-clause-rows : goal.doors_anew-requires-clause-rows
doors_anew-requires-clause-rows c door l = has_rows (arc_value c.self.inside.controller) door l c.self.inside.kept c.self.invariant.order c.self.invariant.evaluated

pub invariant_of-result : goal.invariant_of-result
invariant_of-result c =
    held_again (arc_value c.self.inside.controller) (arc_value c.self.inside.controller) c.self.inside.kept c.self.inside.kept c.self.inside.statuses c.self.inside.statuses
    c.self.inside.counts c.self.inside.counts c.self.inside.doors.items c.in_ok-held.held.items
    c.self.invariant refl refl refl refl c.in_ok-held.ensures.tables
