-- A job for each ring so far, each with a pass.
use Rattle.std.proofs.Common.{◌≡◌, ◌+◌, ◌≤◌, length, vec_len}
use Rattle.gw_serve.proofs.jobs.Jobs.polled_door.Given as goal

abbrev pub invariant-workers : goal.invariant-workers
invariant-workers g l = (vec_len l.rings + l._worker ≡ l.workers)
    × (vec_len l.self.made ≡ vec_len l.initial.self.made + l._worker)
    × (length l.initial.self.passes ≡ length l.self.passes + l._worker)
    × (g.E.Edge.faults l.initial.edge ≤ g.E.Edge.faults l.edge)
