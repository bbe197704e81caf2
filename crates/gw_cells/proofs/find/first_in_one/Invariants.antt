-- What is found among the rest is what is found among all.
use Rattle.std.proofs.Common.{◌≡◌, drop, find}
use Rattle.gw_rows.specs.model.Fitting.{fits}
use Rattle.gw_cells.proofs.find.first_in_one.Given as goal

abbrev pub invariant-rows : goal.invariant-rows
invariant-rows l = find (λ r. fits r l.request) (drop l.row-index l.rows) ≡ find (λ r. fits r l.request) l.rows
