-- The rows so far, and then those of the other Routes, are those of all.
use Rattle.std.proofs.Common.{◌≡◌, ◌++◌, drop}
use Rattle.std.specs.Prelude.{flat_map}
use Rattle.gw_eval.specs.Candidates.{candidate_rows}
use Rattle.gw_eval.proofs.door_rows.push_listener.Given as goal

abbrev pub invariant-candidates : goal.invariant-candidates
invariant-candidates l =
    l.all.items ++ flat_map (candidate_rows l.listener) (drop l.candidate-index l.candidates)
    ≡ l.fn.all.items ++ flat_map (candidate_rows l.listener) l.candidates
