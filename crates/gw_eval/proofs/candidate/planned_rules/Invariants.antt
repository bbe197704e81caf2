-- The rules so far, and then those of the rest, are those of all.
use Rattle.std.proofs.Common.{◌≡◌, ◌++◌, map, drop}
use Rattle.std.specs.List.{enumerate_from}
use Rattle.gw_eval.specs.Candidates.{planned_rule}
use Rattle.gw_eval.proofs.candidate.planned_rules.Given as goal

abbrev pub invariant-rules : goal.invariant-rules
invariant-rules l =
    l.all.items ++ map (planned_rule l.world.world l.namespace) (enumerate_from l.place (drop l.place l.rules))
    ≡ map (planned_rule l.world.world l.namespace) (enumerate_from 0 l.rules)
