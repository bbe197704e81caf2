-- Of the former edges so far none is left that doesn't come again.
use Rattle.std.proofs.Common.{◌≡◌, ◌≤◌, ◌&&◌, drop, not}
use Rattle.gw_deps.specs.Edges.{Edge, has_edge}
use Rattle.gw_deps.proofs.exchange.remove_former.Given as goal

abbrev pub invariant-edges : goal.invariant-edges
invariant-edges l = record {
  has : (x : Edge) → (has_edge x l.edges.list && not (has_edge x (drop l.edge-index l.former) && not (has_edge x l.next.list)))
      ≡ (has_edge x l.fn.edges.list && not (has_edge x l.former && not (has_edge x l.next.list)));
  spare : l.fn.edges.spare ≤ l.edges.spare;
}
