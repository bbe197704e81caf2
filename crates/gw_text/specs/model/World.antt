-- The objects that are held after a list of changes. Source: list and watch of the Kubernetes API.
use Rattle.std.specs.Prelude.{ℕ, ℤ, ◌+◌, ◌^◌, List, [], length, Bool, true, false, not, ◌&&◌, ◌||◌, nat_le, fold, is_some, Option}
use Rattle.std.specs.Option.{option_map_or}
use Rattle.gw_text.specs.model.Names.{Key, cluster_key}
use Rattle.gw_text.specs.model.GatewayClasses.{GatewayClass}
use Rattle.gw_text.specs.model.Gateways.{Gateway}
use Rattle.gw_text.specs.model.Grants.{ReferenceGrant}
use Rattle.gw_text.specs.model.Namespaces.{Namespace, with_own_name}
use Rattle.gw_text.specs.model.Routes.{HttpRoute}
use Rattle.gw_text.specs.model.Services.{Service}
use Rattle.gw_text.specs.model.Slices.{EndpointSlice}
use Rattle.gw_text.specs.declared.kind.Kind.{Kind}
use Rattle.gw_text.specs.declared.kind.Kind.TheVariants as kinds
use Rattle.gw_text.specs.model.Objects.{Object, object_kind, object_key, a_class, a_gateway, a_route, a_grant, a_namespace, a_service, a_slice, Event, puts, removes, Change}
use Rattle.gw_text.specs.model.Stored.{Stored, stored_at, put, remove, in_namespace}

-- The key of a GatewayClass.
abbrev pub class_key : GatewayClass → Key
class_key c = c.meta.key

-- The key of a Gateway.
abbrev pub gateway_key : Gateway → Key
gateway_key g = g.meta.key

-- The key of an HTTPRoute.
abbrev pub route_key : HttpRoute → Key
route_key r = r.meta.key

-- The key of a ReferenceGrant.
abbrev pub grant_key : ReferenceGrant → Key
grant_key g = g.meta.key

-- The key of a Namespace.
abbrev pub namespace_key : Namespace → Key
namespace_key n = n.meta.key

-- The key of a Service.
abbrev pub service_key : Service → Key
service_key s = s.meta.key

-- The key of an EndpointSlice.
abbrev pub slice_key : EndpointSlice → Key
slice_key s = s.meta.key

-- The held objects, kind by kind, each in key order, and the number of the changes that led here.
pub record World : Type 0 where
  pub classes : List (Stored GatewayClass)
  pub gateways : List (Stored Gateway)
  pub routes : List (Stored HttpRoute)
  pub grants : List (Stored ReferenceGrant)
  pub namespaces : List (Stored Namespace)
  pub services : List (Stored Service)
  pub slices : List (Stored EndpointSlice)
  pub changes : ℕ

-- Nothing is held.
abbrev pub nothing : World
nothing = record { classes = []; gateways = []; routes = []; grants = []; namespaces = []; services = []; slices = []; changes = 0 }

-- A put changes the objects of its kind alone.
abbrev pub put_object : World → Object → ℤ → World
put_object w (a_class x) at = record w { classes = put class_key x at w.classes }
put_object w (a_gateway x) at = record w { gateways = put gateway_key x at w.gateways }
put_object w (a_route x) at = record w { routes = put route_key x at w.routes }
put_object w (a_grant x) at = record w { grants = put grant_key x at w.grants }
put_object w (a_namespace x) at = record w { namespaces = put namespace_key x at w.namespaces }
put_object w (a_service x) at = record w { services = put service_key x at w.services }
put_object w (a_slice x) at = record w { slices = put slice_key x at w.slices }

-- A removal takes away the object of the kind and key, if there is one.
abbrev pub remove_key : World → Kind → Key → World
remove_key w kinds.GatewayClass key = record w { classes = remove class_key key w.classes }
remove_key w kinds.Gateway key = record w { gateways = remove gateway_key key w.gateways }
remove_key w kinds.HttpRoute key = record w { routes = remove route_key key w.routes }
remove_key w kinds.ReferenceGrant key = record w { grants = remove grant_key key w.grants }
remove_key w kinds.Namespace key = record w { namespaces = remove namespace_key key w.namespaces }
remove_key w kinds.Service key = record w { services = remove service_key key w.services }
remove_key w kinds.EndpointSlice key = record w { slices = remove slice_key key w.slices }

-- The objects after an event.
abbrev pub changed : World → Event → ℤ → World
changed w (puts object) at = put_object w object at
changed w (removes kind key) at = remove_key w kind key

-- One change more.
abbrev pub apply : World → Change → World
apply w c = record (changed w c.event c.at) { changes = w.changes + 1 }

-- The world after changes, in their order.
abbrev pub after_changes : World → List Change → World
after_changes w changes = fold apply w changes

-- The world after changes, from nothing.
abbrev pub world_of : List Change → World
world_of changes = after_changes nothing changes

-- The most objects that are held.
abbrev pub most_objects : ℕ
most_objects = 65536

-- The most HTTPRoutes of them.
abbrev pub most_routes : ℕ
most_routes = 16384

-- How many objects are held.
abbrev pub object_count : World → ℕ
object_count w = length w.classes + length w.gateways + length w.routes + length w.grants + length w.namespaces + length w.services + length w.slices

-- Something is held under the kind and key.
abbrev pub is_held : World → Kind → Key → Bool
is_held w kinds.GatewayClass key = is_some (stored_at class_key key w.classes)
is_held w kinds.Gateway key = is_some (stored_at gateway_key key w.gateways)
is_held w kinds.HttpRoute key = is_some (stored_at route_key key w.routes)
is_held w kinds.ReferenceGrant key = is_some (stored_at grant_key key w.grants)
is_held w kinds.Namespace key = is_some (stored_at namespace_key key w.namespaces)
is_held w kinds.Service key = is_some (stored_at service_key key w.services)
is_held w kinds.EndpointSlice key = is_some (stored_at slice_key key w.slices)

-- HTTPRoutes have a limit of their own.
abbrev pub is_route_kind : Kind → Bool
is_route_kind kinds.GatewayClass = false
is_route_kind kinds.Gateway = false
is_route_kind kinds.HttpRoute = true
is_route_kind kinds.ReferenceGrant = false
is_route_kind kinds.Namespace = false
is_route_kind kinds.Service = false
is_route_kind kinds.EndpointSlice = false

-- As many objects, or HTTPRoutes, are held as can be.
abbrev pub has_no_room : World → Kind → Bool
has_no_room w kind = nat_le most_objects (object_count w) || (is_route_kind kind && nat_le most_routes (length w.routes))

-- A put of a new key for which there is no room.
abbrev pub is_one_too_many : World → Event → Bool
is_one_too_many w (puts object) = not (is_held w (object_kind object) (object_key object)) && has_no_room w (object_kind object)
is_one_too_many w (removes kind key) = false

-- No change is taken that holds one object too many, or whose number would no longer be one of 64 bits.
unfoldable pub is_full : World → Event → Bool
is_full w event = is_one_too_many w event || nat_le (2 ^ 64) (w.changes + 1)

-- The class of a Gateway, if it is held: the one that it names.
abbrev pub class_at : World → List ℕ → Option (Stored GatewayClass)
class_at w name = stored_at class_key (cluster_key name) w.classes

-- The Gateway of a key, if it is held.
abbrev pub gateway_at : World → Key → Option (Stored Gateway)
gateway_at w key = stored_at gateway_key key w.gateways

-- The HTTPRoute of a key, if it is held.
abbrev pub route_at : World → Key → Option (Stored HttpRoute)
route_at w key = stored_at route_key key w.routes

-- The Service of a key, if it is held.
abbrev pub service_at : World → Key → Option (Stored Service)
service_at w key = stored_at service_key key w.services

-- The ReferenceGrants of a namespace.
abbrev pub grants_in : World → List ℕ → List (Stored ReferenceGrant)
grants_in w namespace = in_namespace grant_key namespace w.grants

-- The EndpointSlices of a namespace.
abbrev pub slices_in : World → List ℕ → List (Stored EndpointSlice)
slices_in w namespace = in_namespace slice_key namespace w.slices

-- The labels of a namespace: those of its object, and without one its own name alone.
abbrev pub namespace_labels : World → List ℕ → List (List ℕ × List ℕ)
namespace_labels w namespace =
    option_map_or (λ s. s.object.labels) (stored_at namespace_key (cluster_key namespace) w.namespaces) (with_own_name namespace [])
