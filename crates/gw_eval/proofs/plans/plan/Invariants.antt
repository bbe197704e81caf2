-- The backends so far are those of the backendRefs so far.
use Rattle.std.proofs.Common.{◌≡◌, map, take}
use Rattle.gw_text.specs.model.Plans.{backend_of}
use Rattle.gw_eval.proofs.plans.plan.Given as goal

abbrev pub invariant-refs : goal.invariant-refs
invariant-refs l = l.backends ≡ map (backend_of l.world.world l.namespace) (take l.to-index l.rule.backend_refs)
