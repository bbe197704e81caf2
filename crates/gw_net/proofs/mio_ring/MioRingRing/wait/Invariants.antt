-- A turn that nothing comes of leaves all as it was.
use Rattle.std.proofs.Common.{◌≡◌}
use Rattle.gw_net.proofs.mio_ring.MioRingRing.wait.Given as goal

abbrev pub invariant-tries : goal.invariant-tries
invariant-tries g l = l.self ≡ l.fn.self
