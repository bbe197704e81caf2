-- The edges that a Route gives, and what becomes of all where a Gateway or a Route goes.
use Rattle.std.proofs.Common.{◌≡◌, ◌∙◌, Bool, false, not, ◌&&◌, List, None, map, filter, sym}
use Rattle.std.specs.List.{list_any}
use Rattle.gw_text.specs.declared.kind.Kind.TheVariants as kinds
use Rattle.gw_text.specs.model.Names.{Key}
use Rattle.gw_text.specs.model.Objects.{removes}
use Rattle.gw_text.specs.model.References.{backend_refs_of}
use Rattle.gw_text.specs.model.Routes.{HttpRoute, names_gateway}
use Rattle.gw_text.specs.model.World.{World, gateway_key, route_key}
use Rattle.gw_deps.specs.Edges.{Edge, gives, has_edge, same_edge, parent_edge, parent_edges, service_edge, service_edges, grant_edge, grant_edges, class_edges, namespace_edges, names_service, leaves}
use Rattle.gw_deps.specs.Indexes.{AreExchanges, Exchange, IndexExchange, Replaces, nothing}
use Rattle.gw_deps.proofs.Choices.{and_true, any_filter, any_flat, any_map}

-- what some item gives is among what all give
all_given : {X : Type 0} (test : X → Bool) (edge : X → Edge) (x : Edge) (xs : List X) → list_any (gives test edge x) xs ≡ has_edge x (map edge (filter test xs))
all_given test edge x xs = sym (any_map (λ y. same_edge y x) edge (filter test xs) ∙ any_filter (λ i. same_edge (edge i) x) test xs)

pub parents_given : (r : HttpRoute) (x : Edge) → list_any (gives names_gateway (parent_edge (route_key r)) x) r.parent_refs ≡ has_edge x (parent_edges r)
parents_given r x = all_given names_gateway (parent_edge (route_key r)) x r.parent_refs

pub services_given : (r : HttpRoute) (x : Edge) → list_any (λ rule. list_any (gives names_service (service_edge (route_key r)) x) rule.backend_refs) r.rules ≡ has_edge x (service_edges r)
services_given r x =
    sym (any_flat (gives names_service (service_edge (route_key r)) x) (λ rule. rule.backend_refs) r.rules)
    ∙ all_given names_service (service_edge (route_key r)) x (backend_refs_of r)

pub grants_given : (r : HttpRoute) (x : Edge) → list_any (λ rule. list_any (gives (leaves r.meta.key.namespace) (grant_edge (route_key r)) x) rule.backend_refs) r.rules ≡ has_edge x (grant_edges r)
grants_given r x =
    sym (any_flat (gives (leaves r.meta.key.namespace) (grant_edge (route_key r)) x) (λ rule. rule.backend_refs) r.rules)
    ∙ all_given (leaves r.meta.key.namespace) (grant_edge (route_key r)) x (backend_refs_of r)

-- of other lists nothing changes
keeps : (b : Bool) → b ≡ (b && not false)
keeps b = sym (and_true b)

module _ (w : World) (key : Key) where
  pub gateway_goes : (e : Exchange) (all : IndexExchange) → all ≡ record { by_class = e; by_gateway = nothing; by_namespace = nothing; by_service = nothing; by_grant = nothing }
      → Replaces gateway_key class_edges key None w.gateways e → AreExchanges w (removes kinds.Gateway key) all
  gateway_goes e all is goes = rw is (record {
    by_class = goes;
    by_gateway = λ at x. keeps _;
    by_namespace = λ at x. keeps _;
    by_service = λ at x. keeps _;
    by_grant = λ at x. keeps _;
  })

  pub route_goes : (p n s g : Exchange) (all : IndexExchange) → all ≡ record { by_class = nothing; by_gateway = p; by_namespace = n; by_service = s; by_grant = g }
      → Replaces route_key parent_edges key None w.routes p → Replaces route_key namespace_edges key None w.routes n
      → Replaces route_key service_edges key None w.routes s → Replaces route_key grant_edges key None w.routes g → AreExchanges w (removes kinds.HttpRoute key) all
  route_goes p n s g all is parents namespaces services grants = rw is (record {
    by_class = λ at x. keeps _;
    by_gateway = parents;
    by_namespace = namespaces;
    by_service = services;
    by_grant = grants;
  })
