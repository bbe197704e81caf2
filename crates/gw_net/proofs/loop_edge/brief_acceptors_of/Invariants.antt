-- As many acceptors as turns, and room for all.
use Rattle.std.proofs.Common.{◌≡◌, ◌≤◌, vec_len, vec_capacity}
use Rattle.gw_net.proofs.loop_edge.brief_acceptors_of.Given as goal

abbrev pub invariant-places : goal.invariant-places
invariant-places g l = (vec_len l.acceptors ≡ l._place) × (l.places ≤ vec_capacity l.acceptors)
