-- What is found before the slashes that are left is what is found before all; a step was taken for each of the others.
use Rattle.std.proofs.Common.{◌≡◌, ◌+◌, ◌≤◌, length, map}
use Rattle.gw_cells.specs.Cells.{at_place, first_fit}
use Rattle.gw_cells.specs.model.Choice.{first_found}
use Rattle.gw_cells.specs.model.Probes.{fronts, prefix_place}
use Rattle.gw_cells.proofs.find.find_by_front.Given as goal

abbrev pub invariant-ends : goal.invariant-ends
invariant-ends g l = record {
  row :
      first_found (λ p. first_fit l.request (at_place l.paths p)) (map prefix_place (fronts l.request.path l.end))
      ≡ first_found (λ p. first_fit l.request (at_place l.paths p)) (map prefix_place (fronts l.request.path (length l.request.path)));
  steps : l.steps + length (fronts l.request.path l.end) ≡ l.fn.steps + length (fronts l.request.path (length l.request.path));
  within : l.end ≤ length l.request.path;
  later : l.fn.steps ≤ l.steps;
}

abbrev pub decreases-ends : goal.decreases-ends
decreases-ends g l = l.end
