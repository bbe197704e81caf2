-- The text of all statuses, as JSON with the keys of each object in byte order. Source: Condition of the Kubernetes API;
-- GatewayClassStatus, GatewayStatus, GatewayStatusAddress, ListenerStatus, RouteGroupKind, RouteStatus, RouteParentStatus and
-- ParentReference of the Gateway API reference.
use Rattle.std.specs.Prelude.{ℕ, List, [], ◌∷◌, ◌++◌, codes, Bool, true, false, Option, Some, None, map, flat_map}
use Rattle.serde_json.specs.Data.{Data, number, unsigned, string, array, object, member, no_members, Members, put}
use Rattle.serde_json.specs.View.{items_of}
use Rattle.gw_json.specs.Lines.{line_of}
use Rattle.gw_text.specs.model.Forms.{printed}
use Rattle.gw_text.specs.model.Conditions.{Condition, condition_kind_text, reason_text}
use Rattle.gw_text.specs.model.Addresses.{Socket, address_text}
use Rattle.gw_text.specs.model.Kinds.{gateway_group}
use Rattle.gw_text.specs.model.Listeners.{ListenerState, GatewayState}
use Rattle.gw_text.specs.model.Statuses.{ClassStatus, ListenerStatus, GatewayStatus, ParentStatus, RouteStatus, Statuses}

-- The status of a condition. Source: ConditionStatus.
abbrev pub truth_text : Bool → List ℕ
truth_text true = codes "True"
truth_text false = codes "False"

-- A condition: its reason, its status, its type.
abbrev pub condition_data : Condition → Data
condition_data c =
    object (member (codes "reason") (string (reason_text c.reason))
    (member (codes "status") (string (truth_text c.truth))
    (member (codes "type") (string (condition_kind_text c.kind)) no_members)))

-- A list of conditions.
abbrev pub conditions_data : List Condition → Data
conditions_data conditions = array (items_of (map condition_data conditions))

-- The conditions of a class.
abbrev pub class_conditions : ClassStatus → List Condition
class_conditions s = s.accepted ∷ []

-- The conditions of a listener, in the byte order of their types.
abbrev pub listener_conditions : ListenerState → List Condition
listener_conditions s = s.accepted ∷ s.conflicted ∷ s.programmed ∷ s.resolved ∷ []

-- The conditions of a Gateway, in the byte order of their types.
abbrev pub gateway_conditions : GatewayState → List Condition
gateway_conditions s = s.accepted ∷ s.programmed ∷ []

-- A GatewayClass.
unfoldable pub class_data : ClassStatus → Data
class_data s =
    object (member (codes "kind") (string (codes "GatewayClass"))
    (member (codes "name") (string (printed s.key.name))
    (member (codes "status") (object (member (codes "conditions") (conditions_data (class_conditions s)) no_members)) no_members)))

-- HTTPRoute, a kind of Route. Source: RouteGroupKind.
abbrev pub http_route_data : Data
http_route_data =
    object (member (codes "group") (string gateway_group)
    (member (codes "kind") (string (codes "HTTPRoute")) no_members))

-- The supported kinds of a listener: HTTPRoute or none.
abbrev pub supported_kinds : Bool → List Data
supported_kinds true = http_route_data ∷ []
supported_kinds false = []

-- A listener.
unfoldable pub listener_data : ListenerStatus → Data
listener_data s =
    object (member (codes "attachedRoutes") (number (unsigned s.attached))
    (member (codes "conditions") (conditions_data (listener_conditions s.state))
    (member (codes "name") (string (printed s.name))
    (member (codes "supportedKinds") (array (items_of (supported_kinds s.state.http))) no_members))))

-- An address of a Gateway, without the port. Source: IPAddressType.
abbrev pub address_data : Socket → Data
address_data at =
    object (member (codes "type") (string (codes "IPAddress"))
    (member (codes "value") (string (printed (address_text at))) no_members))

-- The addresses of a Gateway: one, or none where it isn't programmed.
abbrev pub addresses_of : Option Socket → List Data
addresses_of (Some at) = address_data at ∷ []
addresses_of None = []

-- The status of a Gateway.
abbrev pub gateway_status_data : GatewayStatus → Data
gateway_status_data s =
    object (member (codes "addresses") (array (items_of (addresses_of s.state.address)))
    (member (codes "conditions") (conditions_data (gateway_conditions s.state))
    (member (codes "listeners") (array (items_of (map listener_data s.listeners))) no_members)))

-- A Gateway.
unfoldable pub gateway_data : GatewayStatus → Data
gateway_data s =
    object (member (codes "kind") (string (codes "Gateway"))
    (member (codes "name") (string (printed s.key.name))
    (member (codes "namespace") (string (printed s.key.namespace))
    (member (codes "status") (gateway_status_data s) no_members))))

-- The members, with this one where its value is given.
abbrev pub with_given : {X : Type 0} → List ℕ → (X → Data) → Option X → Members → Members
with_given key value None members = members
with_given key value (Some x) members = put key (value x) members

-- The Gateway that a parentRef names: group, kind, name and namespace with their defaults.
unfoldable pub parent_key_members : ParentStatus → Members
parent_key_members s =
    member (codes "group") (string gateway_group)
    (member (codes "kind") (string (codes "Gateway"))
    (member (codes "name") (string (printed s.name))
    (member (codes "namespace") (string (printed s.namespace)) no_members)))

-- A parentRef, with port and section name where they are given.
unfoldable pub parent_ref_members : ParentStatus → Members
parent_ref_members s =
    with_given (codes "sectionName") (λ name. string (printed name)) s.section
    (with_given (codes "port") (λ port. number (unsigned port)) s.port
    (parent_key_members s))

-- The conditions of a Route's entry, in the byte order of their types.
abbrev pub parent_conditions : ParentStatus → List Condition
parent_conditions s = s.accepted ∷ s.resolved ∷ []

-- The entry of a Route for one of its parentRefs.
unfoldable pub parent_data : ParentStatus → Data
parent_data s =
    object (member (codes "conditions") (conditions_data (parent_conditions s))
    (member (codes "controllerName") (string (printed s.controller))
    (member (codes "parentRef") (object (parent_ref_members s)) no_members)))

-- The status of a Route.
abbrev pub route_status_data : RouteStatus → Data
route_status_data s = object (member (codes "parents") (array (items_of (map parent_data s.parents))) no_members)

-- An HTTPRoute.
unfoldable pub route_data : RouteStatus → Data
route_data s =
    object (member (codes "kind") (string (codes "HTTPRoute"))
    (member (codes "name") (string (printed s.key.name))
    (member (codes "namespace") (string (printed s.key.namespace))
    (member (codes "status") (route_status_data s) no_members))))

-- A line for each class.
abbrev pub classes_text : List ClassStatus → List ℕ
classes_text classes = flat_map (λ s. line_of (class_data s)) classes

-- A line for each Gateway.
abbrev pub gateways_text : List GatewayStatus → List ℕ
gateways_text gateways = flat_map (λ s. line_of (gateway_data s)) gateways

-- The line of a Route; one without entries has none.
abbrev pub route_line : RouteStatus → List ParentStatus → List ℕ
route_line s [] = []
route_line s (p ∷ parents) = line_of (route_data s)

-- A line for each Route that has entries.
abbrev pub routes_text : List RouteStatus → List ℕ
routes_text routes = flat_map (λ s. route_line s s.parents) routes

-- The whole text: a line for each class, then one for each Gateway, then one for each Route.
unfoldable pub statuses_text : Statuses → List ℕ
statuses_text s = classes_text s.classes ++ gateways_text s.gateways ++ routes_text s.routes
