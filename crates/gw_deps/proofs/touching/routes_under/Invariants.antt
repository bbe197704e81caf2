-- The Routes so far, and those under the Gateways to come, are those under all.
use Rattle.std.proofs.Common.{◌≡◌, ◌||◌, drop}
use Rattle.std.specs.List.{list_any}
use Rattle.gw_text.specs.model.Names.{Key}
use Rattle.gw_deps.specs.Edges.{edge_to, has_edge, has_key}
use Rattle.gw_deps.proofs.touching.routes_under.Given as goal

abbrev pub invariant-gateways : goal.invariant-gateways
invariant-gateways l = (k : Key) → (has_key k l.routes.list || list_any (λ g. has_edge (edge_to k g) l.index.by_gateway.list) (drop l.gateway-index l.gateways)) ≡ list_any (λ g. has_edge (edge_to k g) l.index.by_gateway.list) l.gateways
