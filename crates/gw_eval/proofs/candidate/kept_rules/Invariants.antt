-- The rules so far, and then those of the rest, are those of all.
use Rattle.std.proofs.Common.{◌≡◌, ◌++◌, map, drop}
use Rattle.std.specs.List.{enumerate_from}
use Rattle.gw_eval.specs.Candidates.{rule_with, rules_with}
use Rattle.gw_eval.proofs.candidate.kept_rules.Given as goal

abbrev pub invariant-rules : goal.invariant-rules
invariant-rules l = l.all.items ++ map (rule_with l.plans) (enumerate_from l.place (drop l.place l.rules)) ≡ rules_with l.plans l.rules
