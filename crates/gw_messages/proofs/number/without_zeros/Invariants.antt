use Rattle.std.proofs.Common.{◌≡◌, length}
use Rattle.gw_messages.specs.model.Values.{without_zeros}
use Rattle.gw_messages.proofs.number.without_zeros.Given as goal

abbrev pub invariant-zeros : goal.invariant-zeros
invariant-zeros l = without_zeros l.digits ≡ without_zeros l.left

abbrev pub decreases-zeros : goal.decreases-zeros
decreases-zeros l = length l.left
