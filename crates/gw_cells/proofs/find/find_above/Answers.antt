-- Each turn looks at the name that begins with the next byte.
use Rattle.std.proofs.Common.{◌∙◌, rules, arith, ℕ, List, Option, ◌<◌, length}
use Rattle.gw_rows.specs.model.Rows.{Row}
use Rattle.gw_cells.specs.Cells.{at_name, found_by_place}
use Rattle.gw_cells.specs.model.Probes.{most_for_name}
use Rattle.gw_cells.proofs.Turns.{name_steps, name_turn, turn_ends, turn_within}
use Rattle.gw_cells.proofs.find.find_above.Goals as goal

pub returns-in-Some-clause-steps : goal.returns-in-Some-clause-steps
returns-in-Some-clause-steps g c =
    let host = c.args.request.now.host in
    let within : c.bytes.at < length host = search rules in
    turn_ends _ _ _ _ _ _ _ (name_steps host c.bytes.at (most_for_name c.args.request.now) within) c.bytes.invariant.steps c.probe_above.ensures.steps

pub bytes-preserved : goal.bytes-preserved
bytes-preserved g c =
    let host = c.args.request.now.host in
    let look : List ℕ → Option Row = λ name. found_by_place (at_name c.args.names.now name) c.args.request.now in
    let within : c.bytes.at < length host = search rules in
    record {
      row = name_turn look host c.bytes.at within c.in_default.ensures.row ∙ c.bytes.invariant.row;
      steps = turn_within _ _ _ _ _ _ _ (name_steps host c.bytes.at (most_for_name c.args.request.now) within) c.bytes.invariant.steps c.probe_above.ensures.steps;
      later = omega (arith, c.bytes.invariant.later, c.probe_above.ensures.later);
    }
