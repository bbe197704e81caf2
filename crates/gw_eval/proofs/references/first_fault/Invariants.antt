-- The first of all is the first of the rest.
use Rattle.std.proofs.Common.{◌≡◌, drop}
use Rattle.gw_eval.specs.Results.{first_fault_of}
use Rattle.gw_eval.proofs.references.first_fault.Given as goal

abbrev pub invariant-refs : goal.invariant-refs
invariant-refs l = first_fault_of l.world.world l.namespace l.refs ≡ first_fault_of l.world.world l.namespace (drop l.to-index l.refs)
