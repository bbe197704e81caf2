-- The statuses so far, with those of the rest, are all.
use Rattle.std.proofs.Common.{◌≡◌, ◌++◌, map, drop}
use Rattle.gw_replay.proofs.connections.push_statuses.Given as goal

abbrev pub invariant-rows : goal.invariant-rows
invariant-rows l = l.statuses.items ++ map (λ row. row.status) (drop l.row-index l.rows) ≡ l.fn.statuses.items ++ map (λ row. row.status) l.rows
