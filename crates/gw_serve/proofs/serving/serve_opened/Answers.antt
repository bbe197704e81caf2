-- All jobs that were made are run.
use Rattle.std.proofs.Common.{◌≡◌, ◌+◌, ◌*◌, ℕ, IfErr, OnOk, subst, ap, arith, vec_len, length}
use Rattle.gw_serve.specs.Serving.{Leaves, job_count}
use Rattle.gw_serve.proofs.serving.serve_opened.Goals as goal

pub returns-clause-leaves : goal.returns-clause-leaves
returns-clause-leaves g c =
    let doors : length c.as_slice.result.now ≡ length g.N.HubName.doors = omega (arith, c.as_slice.ensures.len, c.requires.sockets) in
    let workers = ap (λ (n : ℕ). c.args.sockets.workers * n) doors in
    let count : vec_len c.doors.new.self.made ≡ job_count c.args.sockets.workers g.N.HubName.doors =
    omega (arith, workers, c.new-jobs.ensures.made, c.in_ok-admin.ensures.made, c.in_ok-doors.ensures.made) in
    subst (λ (n : ℕ). IfErr c.run_all-ended.result (λ fault. Leaves fault n (g.K.Sink.written c.args.sink.now) (g.K.Sink.written c.run_all-ended.new.sink)
    (g.W.Crew.started c.args.crew.now) (g.W.Crew.started c.run_all-ended.new.crew))) count c.run_all-ended.ensures.leaves

pub returns-clause-started : goal.returns-clause-started
returns-clause-started g c =
    let doors : length c.as_slice.result.now ≡ length g.N.HubName.doors = omega (arith, c.as_slice.ensures.len, c.requires.sockets) in
    let workers = ap (λ (n : ℕ). c.args.sockets.workers * n) doors in
    let count : vec_len c.doors.new.self.made ≡ job_count c.args.sockets.workers g.N.HubName.doors =
    omega (arith, workers, c.new-jobs.ensures.made, c.in_ok-admin.ensures.made, c.in_ok-doors.ensures.made) in
    subst (λ (n : ℕ). OnOk c.run_all-ended.result (g.W.Crew.started c.run_all-ended.new.crew ≡ g.W.Crew.started c.args.crew.now + n)) count c.run_all-ended.ensures.started
