-- As many rings as turns, and room for all.
use Rattle.std.proofs.Common.{◌≡◌, ◌≤◌, vec_len, vec_capacity}
use Rattle.gw_polling.proofs.mem_poll_edge.MemPollEdgePollEdge.ring.Given as goal

abbrev pub invariant-places : goal.invariant-places
invariant-places l = (vec_len l.rings ≡ l._place) × ((l.places ≤ vec_capacity l.rings) × (l.self ≡ l.initial.self))
