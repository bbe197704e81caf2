-- Which Routes and Gateways a change touches: those that depend on the object that it changes.
use Rattle.std.specs.Prelude.{◌≡◌, ℕ, ℤ, List, Bool, false, ◌&&◌, ◌||◌, map, filter, bytes_eq, is_some, Option}
use Rattle.std.specs.List.{list_any}
use Rattle.std.specs.Option.{option_map_or}
use Rattle.gw_text.specs.declared.kind.Kind.{Kind}
use Rattle.gw_text.specs.declared.kind.Kind.TheVariants as kinds
use Rattle.gw_text.specs.model.Gateways.{Gateway}
use Rattle.gw_text.specs.model.Names.{Key, same_key}
use Rattle.gw_text.specs.model.Objects.{Event, puts, removes, object_kind, object_key}
use Rattle.gw_text.specs.model.References.{backend_refs_of}
use Rattle.gw_text.specs.model.Routes.{HttpRoute, ParentRef, names_gateway, parent_key, backend_key}
use Rattle.gw_text.specs.model.World.{World, gateway_key, route_key, slice_key, changed, gateway_at}
use Rattle.gw_text.specs.model.Slices.{EndpointSlice}
use Rattle.gw_text.specs.model.Stored.{Stored}
use Rattle.gw_deps.specs.Edges.{Edge, edge_to, has_edge, has_key, leaves, names_service, service_of}

-- The Gateway names the class of this name.
abbrev pub is_of_class : List ℕ → Gateway → Bool
is_of_class class g = bytes_eq g.gateway_class_name class

-- A parentRef of the Route names the Gateway of this key.
abbrev pub is_under : Key → HttpRoute → Bool
is_under gateway r = list_any (λ p. names_gateway p && same_key (parent_key p) gateway) r.parent_refs

-- The parentRef names the Gateway of this key, which the world holds.
abbrev pub is_held_parent : World → Key → ParentRef → Bool
is_held_parent w gateway p = names_gateway p && (same_key (parent_key p) gateway && is_some (gateway_at w (parent_key p)))

-- A parentRef of the Route names it.
abbrev pub has_held_parent : World → Key → HttpRoute → Bool
has_held_parent w gateway r = list_any (is_held_parent w gateway) r.parent_refs

-- A parentRef of the Route names a Gateway of the world that names the class.
abbrev pub is_under_class : World → List ℕ → HttpRoute → Bool
is_under_class w class r = list_any (λ s. is_of_class class s.object && is_under (gateway_key s.object) r) w.gateways

-- The Route stands in the namespace.
abbrev pub is_in : List ℕ → HttpRoute → Bool
is_in namespace r = bytes_eq r.meta.key.namespace namespace

-- A backendRef of the Route is to another namespace, this one.
abbrev pub refers_into : List ℕ → HttpRoute → Bool
refers_into namespace r = list_any (λ b. leaves r.meta.key.namespace b && bytes_eq b.namespace namespace) (backend_refs_of r)

-- A backendRef of the Route names the Service of this key.
abbrev pub refers_to : Key → HttpRoute → Bool
refers_to service r = list_any (λ b. names_service b && same_key (backend_key b) service) (backend_refs_of r)

-- A backendRef of the Route names the Service of the slice of this key, as the world has it.
abbrev pub refers_to_slice : World → Key → HttpRoute → Bool
refers_to_slice w key r =
    list_any (λ s. same_key (slice_key s.object) key && option_map_or (λ service. refers_to service r) (service_of s.object) false) w.slices

-- What is evaluated of the Route depends on the object of this kind and key: it is the Route itself; a Gateway that it names, or the
-- class of one; its namespace; a grant of another namespace to which it refers; a Service to which it refers, or a slice of one.
abbrev pub touches_route : World → Kind → Key → HttpRoute → Bool
touches_route w kinds.GatewayClass key r = is_under_class w key.name r
touches_route w kinds.Gateway key r = is_under key r
touches_route w kinds.HttpRoute key r = same_key (route_key r) key
touches_route w kinds.ReferenceGrant key r = refers_into key.namespace r
touches_route w kinds.Namespace key r = is_in key.name r
touches_route w kinds.Service key r = refers_to key r
touches_route w kinds.EndpointSlice key r = refers_to_slice w key r

-- What is evaluated of the Gateway depends on the object of this kind and key: it is the Gateway itself, its class, a Route that names
-- it, or the namespace of one. References of Routes and what they refer to don't change what is said of a Gateway.
abbrev pub touches_gateway : World → Kind → Key → Gateway → Bool
touches_gateway w kinds.GatewayClass key g = is_of_class key.name g
touches_gateway w kinds.Gateway key g = same_key (gateway_key g) key
touches_gateway w kinds.HttpRoute key g = list_any (λ s. same_key (route_key s.object) key && is_under (gateway_key g) s.object) w.routes
touches_gateway w kinds.ReferenceGrant key g = false
touches_gateway w kinds.Namespace key g = list_any (λ s. is_in key.name s.object && is_under (gateway_key g) s.object) w.routes
touches_gateway w kinds.Service key g = false
touches_gateway w kinds.EndpointSlice key g = false

-- The keys of the Routes of a world that depend on the object of this kind and key.
abbrev pub routes_in : World → Kind → Key → List Key
routes_in w kind key = map (λ s. route_key s.object) (filter (λ s. touches_route w kind key s.object) w.routes)

-- The keys of the Gateways of a world that depend on it.
abbrev pub gateways_in : World → Kind → Key → List Key
gateways_in w kind key = map (λ s. gateway_key s.object) (filter (λ s. touches_gateway w kind key s.object) w.gateways)

-- The kind of the object that an event changes.
abbrev pub event_kind : Event → Kind
event_kind (puts object) = object_kind object
event_kind (removes kind key) = kind

-- Its key.
abbrev pub event_key : Event → Key
event_key (puts object) = object_key object
event_key (removes kind key) = key

-- The keys of Routes and of Gateways.
pub record Touched : Type 0 where
  pub routes : List Key
  pub gateways : List Key

-- The keys are those of the Routes and of the Gateways that depend on the object of this kind and key in one world.
pub record AreTouchedIn (w : World) (kind : Kind) (key : Key) (touched : Touched) : Type 0 where
  pub routes : (k : Key) → has_key k touched.routes ≡ has_key k (routes_in w kind key)
  pub gateways : (k : Key) → has_key k touched.gateways ≡ has_key k (gateways_in w kind key)

-- The keys are those of the Routes and of the Gateways that depend on the object that the event changes, in the world before it or in the
-- one after it.
pub record AreTouched (w : World) (event : Event) (at : ℤ) (touched : Touched) : Type 0 where
  pub routes : (k : Key) → has_key k touched.routes
      ≡ (has_key k (routes_in w (event_kind event) (event_key event)) || has_key k (routes_in (changed w event at) (event_kind event) (event_key event)))
  pub gateways : (k : Key) → has_key k touched.gateways
      ≡ (has_key k (gateways_in w (event_kind event) (event_key event)) || has_key k (gateways_in (changed w event at) (event_kind event) (event_key event)))

-- The object of this key depends on the Service of the slice by one of the edges.
abbrev pub depends_on_slice : List Edge → Key → EndpointSlice → Bool
depends_on_slice edges k e = option_map_or (λ service. has_edge (edge_to k service) edges) (service_of e) false

-- What a stored object passes, if there is one.
abbrev pub is_some_with : {T : Type 0} → (T → Bool) → Option (Stored T) → Bool
is_some_with test found = option_map_or (λ s. test s.object) found false
