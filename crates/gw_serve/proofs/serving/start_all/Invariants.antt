-- All jobs so far are started.
use Rattle.std.proofs.Common.{◌≡◌, ◌+◌, ◌≤◌, vec_len}
use Rattle.gw_serve.proofs.serving.start_all.Given as goal

abbrev pub invariant-jobs : goal.invariant-jobs
invariant-jobs g l = (vec_len l.jobs + l._job ≡ l.count)
    × (g.W.Crew.started l.crew ≡ g.W.Crew.started l.initial.crew + l._job)
    × (g.W.Crew.faults l.initial.crew ≤ g.W.Crew.faults l.crew)
