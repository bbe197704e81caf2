use Rattle.std.proofs.Common.{◌≡◌, ◌≤◌, ◌*◌, sum, take}
use Rattle.gw_weight.proofs.shares.sum_of.Given as goal

abbrev pub invariant-loop-weight : goal.invariant-loop-weight
invariant-loop-weight l = record {
  so_far : l.total ≡ sum (take l.weight-index l.weights);
  small : l.total ≤ l.weight-index * 4294967295;
}
