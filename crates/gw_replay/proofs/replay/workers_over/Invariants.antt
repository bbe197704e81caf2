-- The workers so far, with those over the passes that are left, are all.
use Rattle.std.proofs.Common.{◌≡◌, ◌++◌, length, map}
use Rattle.gw_replay.specs.States.{worker_over}
use Rattle.gw_replay.proofs.replay.workers_over.Given as goal

abbrev pub invariant-passes : goal.invariant-passes
invariant-passes l = l.workers.items ++ map worker_over l.left ≡ map worker_over l.fn.passes

abbrev pub decreases-passes : goal.decreases-passes
decreases-passes l = length l.left
