-- The connections are served still.
use Rattle.gw_serve.specs.Polled.{AreServed}
use Rattle.gw_serve.proofs.polled.Turns.serve.Given as goal

abbrev pub invariant-waits : goal.invariant-waits
invariant-waits g l = AreServed g.V.PollUpstream (g.G.Ring.given_numbers l.self.ring) l.self.crowd
