-- Each turn looks before the byte that comes next, from the last one on.
use Rattle.std.proofs.Common.{◌≡◌, ◌∙◌, arith, Option, ◌+◌, ◌-◌}
use Rattle.gw_rows.specs.model.Rows.{Row}
use Rattle.gw_cells.specs.Cells.{at_place, first_fit}
use Rattle.gw_cells.specs.model.Addresses.{Place}
use Rattle.gw_cells.proofs.Turns.{front_steps, front_turn}
use Rattle.gw_cells.proofs.find.find_by_front.Goals as goal

pub ends-preserved : goal.ends-preserved
ends-preserved g c =
    let path = c.args.request.now.path in
    let look : Place → Option Row = λ p. first_fit c.args.request.now (at_place c.args.paths.now p) in
    let next : c.ends.end ≡ (c.ends.end - 1) + 1 = omega (arith, c.ends-test.true) in
    let fewer = front_steps look path c.ends.end (c.ends.end - 1) next in
    record {
      row = front_turn look path c.ends.end (c.ends.end - 1) next c.in_default.ensures.row ∙ c.ends.invariant.row;
      steps = omega (arith, c.probe_front.ensures.steps, c.ends.invariant.steps, fewer);
      within = omega (arith, c.ends.invariant.within);
      later = omega (arith, c.probe_front.ensures.steps, c.ends.invariant.later);
    }
