-- The rows so far are those of the Routes so far.
use Rattle.std.proofs.Common.{◌≡◌, map, take}
use Rattle.gw_eval.specs.Candidates.{kept_rows}
use Rattle.gw_kept.proofs.listener.all_rows.Given as goal

abbrev pub invariant-routes : goal.invariant-routes
invariant-routes l = l.all.items ≡ map (kept_rows l.door l.listener) (take l.at l.kept)
