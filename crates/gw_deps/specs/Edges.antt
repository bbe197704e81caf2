-- Edges: which object depends on which by what its own fields say.
use Rattle.std.specs.Prelude.{ℕ, List, [], ◌∷◌, Bool, not, ◌&&◌, map, filter, bytes_eq, codes, Option, option_map}
use Rattle.std.specs.Cmp.Lexicographic.{slice_cmp}
use Rattle.std.specs.Ordering.{nat_cmp, ordering_then}
use Rattle.std.specs.declared.cmp.Ordering.{Ordering}
use Rattle.gw_text.specs.model.Gateways.{Gateway}
use Rattle.gw_text.specs.model.Names.{Key, cluster_key, same_key}
use Rattle.gw_text.specs.model.References.{backend_refs_of}
use Rattle.gw_text.specs.model.Routes.{BackendRef, HttpRoute, ParentRef, names_gateway, parent_key, is_core_service, backend_key}
use Rattle.gw_text.specs.model.Selectors.{label_of}
use Rattle.gw_text.specs.model.Slices.{EndpointSlice}
use Rattle.gw_text.specs.model.World.{gateway_key, route_key}
use Rattle.gw_deps.specs.Sets.{has}

-- Namespaces first, byte by byte, and then names.
abbrev pub name_order : Key → Key → Ordering
name_order a b = ordering_then (slice_cmp nat_cmp a.namespace b.namespace) (slice_cmp nat_cmp a.name b.name)

-- What is named, and the object that names it.
pub record Edge : Type 0 where
  pub subject : Key
  pub dependant : Key

-- By what is named first, so that the edges of one subject stand together.
abbrev pub edge_order : Edge → Edge → Ordering
edge_order a b = ordering_then (name_order a.subject b.subject) (name_order a.dependant b.dependant)

-- Both ends are the same.
abbrev pub same_edge : Edge → Edge → Bool
same_edge a b = same_key a.subject b.subject && same_key a.dependant b.dependant

-- The edge is among these.
abbrev pub has_edge : Edge → List Edge → Bool
has_edge = has same_edge

-- The key is among these.
abbrev pub has_key : Key → List Key → Bool
has_key = has same_key

-- The edges of one subject.
abbrev pub of_subject : Key → List Edge → List Edge
of_subject subject edges = filter (λ e. same_key e.subject subject) edges

-- The object of this key depends on what is named so.
abbrev pub edge_to : Key → Key → Edge
edge_to dependant subject = record { subject = subject; dependant = dependant }

-- A Gateway depends on the class that it names.
abbrev pub class_edges : Gateway → List Edge
class_edges g = edge_to (gateway_key g) (cluster_key g.gateway_class_name) ∷ []

-- The edge to the Route of this key from what a parentRef names.
abbrev pub parent_edge : Key → ParentRef → Edge
parent_edge key p = edge_to key (parent_key p)

-- A Route depends on each Gateway that one of its parentRefs names.
abbrev pub parent_edges : HttpRoute → List Edge
parent_edges r = map (parent_edge (route_key r)) (filter names_gateway r.parent_refs)

-- A Route depends on its namespace.
abbrev pub namespace_edges : HttpRoute → List Edge
namespace_edges r = edge_to (route_key r) (cluster_key r.meta.key.namespace) ∷ []

-- The reference is to a Service.
abbrev pub names_service : BackendRef → Bool
names_service b = is_core_service b.group b.kind

-- The edge to the Route of this key from what a backendRef names.
abbrev pub service_edge : Key → BackendRef → Edge
service_edge key b = edge_to key (backend_key b)

-- A Route depends on each Service that one of its backendRefs names.
abbrev pub service_edges : HttpRoute → List Edge
service_edges r = map (service_edge (route_key r)) (filter names_service (backend_refs_of r))

-- The reference of a Route of this namespace is to another one.
abbrev pub leaves : List ℕ → BackendRef → Bool
leaves namespace b = not (bytes_eq b.namespace namespace)

-- The edge to the Route of this key from the namespace of a backendRef.
abbrev pub grant_edge : Key → BackendRef → Edge
grant_edge key b = edge_to key (cluster_key b.namespace)

-- A Route depends on the ReferenceGrants of each other namespace to which one of its backendRefs is.
abbrev pub grant_edges : HttpRoute → List Edge
grant_edges r = map (grant_edge (route_key r)) (filter (leaves r.meta.key.namespace) (backend_refs_of r))

-- The Service that the label of a slice names, if it has one, in the slice's namespace. Source: the label kubernetes.io/service-name.
abbrev pub service_of : EndpointSlice → Option Key
service_of e = option_map (λ name. record { namespace = e.meta.key.namespace; name = name }) (label_of (codes "kubernetes.io/service-name") e.labels)

-- Among what passes the test some item gives this edge.
abbrev pub gives : {X : Type 0} → (X → Bool) → (X → Edge) → Edge → X → Bool
gives test edge x item = test item && same_edge (edge item) x
