-- The first of all rules is the first of the rest.
use Rattle.std.proofs.Common.{◌≡◌, drop}
use Rattle.gw_eval.specs.Results.{first_fault_in}
use Rattle.gw_eval.proofs.references.fault_of_rules.Given as goal

abbrev pub invariant-rules : goal.invariant-rules
invariant-rules l = first_fault_in l.world.world l.namespace l.rules ≡ first_fault_in l.world.world l.namespace (drop l.rule-index l.rules)
