-- The edges so far, and those of the parentRefs to come, are those of all.
use Rattle.std.proofs.Common.{◌≡◌, ◌||◌, drop}
use Rattle.std.specs.List.{list_any}
use Rattle.gw_text.specs.model.Routes.{names_gateway}
use Rattle.gw_deps.specs.Edges.{Edge, gives, has_edge, parent_edge}
use Rattle.gw_deps.proofs.object_edges.parent_edges.Given as goal

abbrev pub invariant-parents : goal.invariant-parents
invariant-parents l = (x : Edge) → (has_edge x l.all.list || list_any (gives names_gateway (parent_edge l.key) x) (drop l.parent-index l.parent-items)) ≡ list_any (gives names_gateway (parent_edge l.key) x) l.parent-items
