-- The passes that are left are of the opening.
use Rattle.gw_serve.proofs.jobs.Jobs.polled_worker.Goals as goal

pub invariant_of-self : goal.invariant_of-self
invariant_of-self g c = record { of = c.pass.new.self.of }
