-- Nothing was polled yet.
use Rattle.std.proofs.Common.{◌≡◌}
use Rattle.gw_serve.proofs.polled.Turns.turn.Given as goal

abbrev pub invariant-tries : goal.invariant-tries
invariant-tries g l = l.self ≡ l.fn.self
