-- The plans so far are those of the rules so far.
use Rattle.std.proofs.Common.{◌≡◌, map, take}
use Rattle.gw_text.specs.model.Plans.{plan_of}
use Rattle.gw_eval.proofs.plans.plans.Given as goal

abbrev pub invariant-rules : goal.invariant-rules
invariant-rules l = l.all ≡ map (plan_of l.world.world l.route.meta.key.namespace) (take l.rule-index l.route.rules)
