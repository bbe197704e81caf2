-- Each turn waits for one job, and changes no count.
use Rattle.std.proofs.Common.{◌≡◌, ◌≤◌, vec_len}
use Rattle.gw_net.proofs.thread_crew.ThreadCrewCrew.finish.Given as goal

abbrev pub invariant-threads : goal.invariant-threads
invariant-threads g l =
    (l.self-inside.faults ≡ l.fn.self.faults) × ((l.self-inside.started ≡ l.fn.self.started) × (vec_len l.self-inside.threads ≤ l.self-inside.started))

abbrev pub decreases-threads : goal.decreases-threads
decreases-threads g l = vec_len l.self-inside.threads
