-- What is found under the names that are left is what is found under all; the others took no more steps than there are places for each.
use Rattle.std.proofs.Common.{◌≡◌, ◌+◌, ◌*◌, ◌≤◌, length, drop}
use Rattle.gw_cells.specs.Cells.{at_name, found_by_place}
use Rattle.gw_cells.specs.model.Choice.{first_found}
use Rattle.gw_cells.specs.model.Probes.{most_for_name, names_above}
use Rattle.gw_cells.proofs.find.find_above.Given as goal

abbrev pub invariant-bytes : goal.invariant-bytes
invariant-bytes g l = record {
  row :
      first_found (λ name. found_by_place (at_name l.names name) l.request) (names_above (drop l.at l.request.host))
      ≡ first_found (λ name. found_by_place (at_name l.names name) l.request) (names_above l.request.host);
  steps : l.steps + length (names_above (drop l.at l.request.host)) * most_for_name l.request ≤ l.fn.steps + length (names_above l.request.host) * most_for_name l.request;
  later : l.fn.steps ≤ l.steps;
}
