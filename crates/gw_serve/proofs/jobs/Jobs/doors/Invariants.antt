-- The jobs of the doors so far, each with a pass.
use Rattle.std.proofs.Common.{◌≡◌, ◌+◌, ◌*◌, ◌≤◌, length, vec_len}
use Rattle.gw_serve.proofs.jobs.Jobs.doors.Given as goal

abbrev pub invariant-doors : goal.invariant-doors
invariant-doors g l = (vec_len l.self.made ≡ vec_len l.initial.self.made + l.workers * l.door)
    × (length l.self.passes + l.workers * l.door ≡ l.workers * length l.sockets)
    × (g.E.Edge.faults l.initial.edge ≤ g.E.Edge.faults l.edge)
