-- The rows so far, and those of the Routes that are left, are all.
use Rattle.std.proofs.Common.{◌≡◌, ◌++◌, drop}
use Rattle.gw_match.specs.model.Listed.{rows_in}
use Rattle.gw_match.proofs.listener_table.ListenerTable.push_rows.Given as goal

abbrev pub invariant-routes : goal.invariant-routes
invariant-routes l = l.all.items ++ rows_in (drop l.at l.self.routes) ≡ l.fn.all.items ++ rows_in l.self.routes
