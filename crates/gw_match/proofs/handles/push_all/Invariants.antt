-- Those that are pushed, and then the rest, are all.
use Rattle.std.proofs.Common.{◌≡◌, ◌++◌, drop}
use Rattle.gw_match.proofs.handles.push_all.Given as goal

abbrev pub invariant-rows : goal.invariant-rows
invariant-rows l = l.all.items ++ drop l.row-index l.rows ≡ l.fn.all.items ++ l.rows
