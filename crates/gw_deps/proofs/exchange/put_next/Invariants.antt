-- The edges that are put, and those that are still to be put, are all.
use Rattle.std.proofs.Common.{◌≡◌, ◌≤◌, ◌||◌, length, vec_len}
use Rattle.gw_deps.specs.Edges.{Edge, has_edge}
use Rattle.gw_deps.proofs.exchange.put_next.Given as goal

abbrev pub invariant-edges : goal.invariant-edges
invariant-edges l = record {
  has : (x : Edge) → (has_edge x l.next.items || has_edge x l.edges.list) ≡ (has_edge x l.fn.next.items || has_edge x l.fn.edges.list);
  room : length l.next.items ≤ l.edges.spare;
}

abbrev pub decreases-edges : goal.decreases-edges
decreases-edges l = vec_len l.next
