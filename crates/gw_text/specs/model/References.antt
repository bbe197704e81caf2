-- What becomes of a Route's references to Services. Source: BackendObjectReference, ReferenceGrant and RouteConditionResolvedRefs of
-- the Gateway API reference; ServicePort of the Kubernetes API; EndpointSlice of discovery.k8s.io/v1.
use Rattle.std.specs.Prelude.{ℕ, List, [], ◌∷◌, codes, Bool, true, false, not, ◌&&◌, ◌||◌, ◌==◌, bytes_eq, if◌then◌else◌, Option, Some, None, option_map, find, filter, flat_map}
use Rattle.std.specs.List.{list_any, filter_map}
use Rattle.std.specs.Option.{option_map_or}
use Rattle.gw_text.specs.declared.condition.CondKind.TheVariants as kinds
use Rattle.gw_text.specs.declared.condition.Reason.{Reason}
use Rattle.gw_text.specs.declared.condition.Reason.TheVariants as reasons
use Rattle.gw_text.specs.model.Addresses.{Socket, socket_at}
use Rattle.gw_text.specs.model.Conditions.{Condition, true_by, false_by}
use Rattle.gw_text.specs.model.Doors.{same_socket}
use Rattle.gw_text.specs.model.Grants.{GrantFrom, GrantTo, ReferenceGrant}
use Rattle.gw_text.specs.model.Kinds.{gateway_group}
use Rattle.gw_text.specs.model.Names.{Key, is_in_namespace}
use Rattle.gw_text.specs.model.Routes.{BackendRef, HttpRoute, is_core_service, backend_key}
use Rattle.gw_text.specs.model.Selectors.{label_of}
use Rattle.gw_text.specs.model.Services.{ServicePort, Service}
use Rattle.gw_text.specs.model.Slices.{EndpointPort, Endpoint, EndpointSlice, is_ipv4_type}
use Rattle.gw_text.specs.model.Stored.{objects_of}
use Rattle.gw_text.specs.model.Unsupported.{is_one_of}
use Rattle.gw_text.specs.model.World.{World, service_at, grants_in, slices_in}

-- The entry is for the HTTPRoutes of this namespace. Source: ReferenceGrantFrom.
abbrev pub is_from : List ℕ → GrantFrom → Bool
is_from namespace f = bytes_eq f.group gateway_group && bytes_eq f.kind (codes "HTTPRoute") && bytes_eq f.namespace namespace

-- The entry is for the Service of this name, or for all Services. Source: ReferenceGrantTo.
abbrev pub is_to : List ℕ → GrantTo → Bool
is_to name t = is_core_service t.group t.kind && option_map_or (bytes_eq name) t.name true

-- The grant permits HTTPRoutes of this namespace to refer to the Service: it stands in the Service's namespace and has both entries.
-- Source: ReferenceGrantSpec.
unfoldable pub permits : List ℕ → Key → ReferenceGrant → Bool
permits namespace service g =
    is_in_namespace service.namespace g.meta.key && list_any (is_from namespace) g.from && list_any (is_to service.name) g.to

-- Some grant permits it.
abbrev pub granted : List ReferenceGrant → List ℕ → Key → Bool
granted grants namespace service = list_any (permits namespace service) grants

-- What becomes of a backendRef: it isn't to a Service that can be a backend, it isn't permitted, there is no such Service or port, the
-- port speaks another protocol, no endpoint is ready, or these are.
pub data BackendState : Type 0 where
  invalid_kind : BackendState
  not_permitted : BackendState
  not_found : BackendState
  bad_protocol : BackendState
  no_endpoints : BackendState
  ready : List Socket → BackendState

-- TCP, the protocol of HTTP/1.1. Source: the protocols of ServicePort and EndpointPort.
abbrev pub is_tcp : List ℕ → Bool
is_tcp protocol = bytes_eq protocol (codes "TCP")

-- The port of a Service that a backendRef asks for: the first TCP port of that number.
abbrev pub service_port : Option ℕ → Service → Option ServicePort
service_port None s = None
service_port (Some number) s = find (λ p. is_tcp p.protocol && p.port == number) s.ports

-- The protocol is one that backends aren't spoken to in. Source: appProtocol of ServicePort.
abbrev pub is_other_protocol : List ℕ → Bool
is_other_protocol = is_one_of (codes "kubernetes.io/h2c" ∷ codes "kubernetes.io/wss" ∷ codes "https" ∷ [])

-- The slice is one of the Service's, with addresses of IPv4. Source: the label kubernetes.io/service-name.
unfoldable pub is_slice_of : Key → EndpointSlice → Bool
is_slice_of service e =
    is_ipv4_type e.address_type
    && is_in_namespace service.namespace e.meta.key
    && option_map_or (bytes_eq service.name) (label_of (codes "kubernetes.io/service-name") e.labels) false

-- The number of a TCP port of this name, where it has one.
abbrev pub number_if : List ℕ → EndpointPort → Option ℕ
number_if name p = if is_tcp p.protocol && bytes_eq p.name name then p.port else None

-- The first, if there is one.
abbrev pub first_of : {T : Type 0} → List T → Option T
first_of [] = None
first_of (x ∷ xs) = Some x

-- The port of a slice's endpoints: the number of its first TCP port that has this name and a number. Source: EndpointPort.
abbrev pub slice_port : List ℕ → List EndpointPort → Option ℕ
slice_port name ports = first_of (filter_map (number_if name) ports)

-- The socket of an endpoint that is ready, at its first address. Source: Endpoint, addresses and conditions.
abbrev pub endpoint_socket : ℕ → Endpoint → Option Socket
endpoint_socket port e = if e.ready then option_map (λ address. socket_at address port) e.address else None

-- The sockets of a slice, for the Service's port of this name. A slice without such a port has none.
abbrev pub slice_sockets : List ℕ → EndpointSlice → List Socket
slice_sockets name e = option_map_or (λ port. filter_map (endpoint_socket port) e.endpoints) (slice_port name e.ports) []

-- The sockets without those that equal an earlier one.
abbrev pub each_once : List Socket → List Socket
each_once [] = []
each_once (s ∷ sockets) = s ∷ filter (λ t. not (same_socket s t)) (each_once sockets)

-- The sockets of a Service's port of this name, in the order of the slices.
unfoldable pub sockets_of : Key → List ℕ → List EndpointSlice → List Socket
sockets_of service name slices = each_once (flat_map (slice_sockets name) (filter (is_slice_of service) slices))

-- Ready, where there is a socket.
abbrev pub ready_with : List Socket → BackendState
ready_with [] = no_endpoints
ready_with (s ∷ sockets) = ready (s ∷ sockets)

-- The state of a Service's port that was found, or of none.
abbrev pub state_of_port : Service → List EndpointSlice → Option ServicePort → BackendState
state_of_port s slices None = not_found
state_of_port s slices (Some p) =
    if option_map_or is_other_protocol p.app_protocol false then bad_protocol else ready_with (sockets_of s.meta.key p.name slices)

-- The state of a Service that was found, or of none. One that names a host outside of the cluster isn't a backend.
abbrev pub state_of_service : Option ℕ → List EndpointSlice → Option Service → BackendState
state_of_service port slices None = not_found
state_of_service port slices (Some s) = if s.external_name then invalid_kind else state_of_port s slices (service_port port s)

-- What becomes of a backendRef, by whether it is permitted, the Service that it names, if there is one, and that Service's slices.
unfoldable pub backend_state_of : BackendRef → Bool → Option Service → List EndpointSlice → BackendState
backend_state_of b permitted service slices =
    if not (is_core_service b.group b.kind) then invalid_kind
    else (if not permitted then not_permitted
    else state_of_service b.port slices service)

-- A Route of this namespace may refer to the Service: to one of its own namespace, and to another where some grant permits it.
-- Source: ReferenceGrant.
abbrev pub is_permitted : World → List ℕ → BackendRef → Bool
is_permitted w namespace b = bytes_eq b.namespace namespace || granted (objects_of (grants_in w b.namespace)) namespace (backend_key b)

-- What becomes of a backendRef of a Route of this namespace.
unfoldable pub backend_state_in : World → List ℕ → BackendRef → BackendState
backend_state_in w namespace b =
    backend_state_of b (is_permitted w namespace b) (option_map (λ s. s.object) (service_at w (backend_key b))) (objects_of (slices_in w b.namespace))

-- Why a reference isn't resolved, if it isn't. One whose Service has no endpoint that is ready is resolved all the same.
-- Source: the reasons of RouteConditionResolvedRefs.
abbrev pub unresolved : BackendState → Option Reason
unresolved invalid_kind = Some reasons.InvalidKind
unresolved not_permitted = Some reasons.RefNotPermitted
unresolved not_found = Some reasons.BackendNotFound
unresolved bad_protocol = Some reasons.UnsupportedProtocol
unresolved no_endpoints = None
unresolved (ready sockets) = None

-- The backendRefs of a Route, in list order.
abbrev pub backend_refs_of : HttpRoute → List BackendRef
backend_refs_of r = flat_map (λ rule. rule.backend_refs) r.rules

-- Why backendRefs of a Route aren't resolved, in list order, whatever their weights.
abbrev pub unresolved_in : World → HttpRoute → List Reason
unresolved_in w r = filter_map (λ b. unresolved (backend_state_in w r.meta.key.namespace b)) (backend_refs_of r)

-- ResolvedRefs, but for the first reason against it.
abbrev pub resolved_unless : Option Reason → Condition
resolved_unless None = true_by kinds.ResolvedRefs reasons.ResolvedRefs
resolved_unless (Some reason) = false_by kinds.ResolvedRefs reason

-- ResolvedRefs of a Route, in each of its entries. Source: RouteConditionResolvedRefs.
unfoldable pub resolved_refs_of : World → HttpRoute → Condition
resolved_refs_of w r = resolved_unless (first_of (unresolved_in w r))
