-- The rows so far, and then those of the other listeners, are those of all.
use Rattle.std.proofs.Common.{◌≡◌, ◌++◌, drop}
use Rattle.std.specs.Prelude.{flat_map}
use Rattle.gw_eval.specs.Candidates.{candidate_rows}
use Rattle.gw_eval.proofs.door_rows.rows_at.Given as goal

abbrev pub invariant-listeners : goal.invariant-listeners
invariant-listeners l =
    l.all.items ++ flat_map (λ s. flat_map (candidate_rows s) l.candidates) (drop l.listener-index l.listeners)
    ≡ flat_map (λ s. flat_map (candidate_rows s) l.candidates) l.listeners
