-- The edges so far, and those of the backendRefs to come, are those before and of all.
use Rattle.std.proofs.Common.{◌≡◌, ◌||◌, drop}
use Rattle.std.specs.List.{list_any}
use Rattle.gw_deps.specs.Edges.{Edge, gives, grant_edge, has_edge, leaves, names_service, service_edge}
use Rattle.gw_deps.proofs.object_edges.BackendEdges.add_rule.Given as goal

abbrev pub invariant-backends : goal.invariant-backends
invariant-backends l = record {
  services : (x : Edge) → (has_edge x l.self.services.list || list_any (gives names_service (service_edge l.key) x) (drop l.backend-index l.backends))
      ≡ (list_any (gives names_service (service_edge l.key) x) l.backends || has_edge x l.fn.self.services.list);
  grants : (x : Edge) → (has_edge x l.self.grants.list || list_any (gives (leaves l.key.namespace) (grant_edge l.key) x) (drop l.backend-index l.backends))
      ≡ (list_any (gives (leaves l.key.namespace) (grant_edge l.key) x) l.backends || has_edge x l.fn.self.grants.list);
}
