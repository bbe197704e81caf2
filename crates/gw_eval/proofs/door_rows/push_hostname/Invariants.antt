-- The rows so far, and then those of the other rules, are those of all.
use Rattle.std.proofs.Common.{◌≡◌, ◌++◌, drop}
use Rattle.std.specs.Prelude.{flat_map}
use Rattle.gw_eval.specs.Candidates.{planned_rows}
use Rattle.gw_eval.proofs.door_rows.push_hostname.Given as goal

abbrev pub invariant-rules : goal.invariant-rules
invariant-rules l =
    l.all.items ++ flat_map (planned_rows l.listener l.candidate.route l.hostname) (drop l.rule-index l.candidate.rules)
    ≡ l.fn.all.items ++ flat_map (planned_rows l.listener l.candidate.route l.hostname) l.candidate.rules
