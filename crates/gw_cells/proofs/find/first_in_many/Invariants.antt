-- What is found among the rest is what is found among all.
use Rattle.std.proofs.Common.{◌≡◌, ◌≤◌, ◌-◌, drop, find, length}
use Rattle.gw_rows.specs.model.Fitting.{fits}
use Rattle.gw_cells.proofs.find.first_in_many.Given as goal

abbrev pub invariant-pieces : goal.invariant-pieces
invariant-pieces l = record {
  within : l.at ≤ length l.rows;
  rest : find (λ r. fits r l.request) (drop l.at l.rows) ≡ find (λ r. fits r l.request) l.rows;
}

abbrev pub decreases-pieces : goal.decreases-pieces
decreases-pieces l = length l.rows - l.at
