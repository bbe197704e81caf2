-- As many acceptors as turns, and room for all.
use Rattle.std.proofs.Common.{◌≡◌, ◌≤◌, vec_len, vec_capacity}
use Rattle.gw_edge.proofs.mem_edge.MemEdgeEdge.bind.Given as goal

abbrev pub invariant-places : goal.invariant-places
invariant-places l = (vec_len l.acceptors ≡ l._place) × ((l.places ≤ vec_capacity l.acceptors) × (l.self ≡ l.initial.self))
