-- The edges so far, and those of the rules to come, are those of all.
use Rattle.std.proofs.Common.{◌≡◌, ◌||◌, drop}
use Rattle.std.specs.List.{list_any}
use Rattle.gw_deps.specs.Edges.{Edge, gives, grant_edge, has_edge, leaves, names_service, service_edge}
use Rattle.gw_deps.proofs.object_edges.backend_edges.Given as goal

abbrev pub invariant-rules : goal.invariant-rules
invariant-rules l = record {
  services : (x : Edge) → (has_edge x l.all.services.list || list_any (λ rule. list_any (gives names_service (service_edge l.key) x) rule.backend_refs) (drop l.rule-index l.rule-items))
      ≡ list_any (λ rule. list_any (gives names_service (service_edge l.key) x) rule.backend_refs) l.rule-items;
  grants : (x : Edge) → (has_edge x l.all.grants.list || list_any (λ rule. list_any (gives (leaves l.key.namespace) (grant_edge l.key) x) rule.backend_refs) (drop l.rule-index l.rule-items))
      ≡ list_any (λ rule. list_any (gives (leaves l.key.namespace) (grant_edge l.key) x) rule.backend_refs) l.rule-items;
}
