-- The statuses of a world, each evaluated from all its objects. Source: GatewayClassStatus, GatewayStatus and HTTPRouteStatus of the
-- Gateway API reference.
use Rattle.std.specs.Prelude.{ℕ, List, Bool, false, ◌&&◌, bytes_eq, nat_eq, if◌then◌else◌, map, filter, Option, Some, None, option_map}
use Rattle.std.specs.List.{list_any, count_by, filter_map, enumerate_from}
use Rattle.std.specs.Option.{option_map_or}
use Rattle.gw_text.specs.declared.condition.CondKind.TheVariants as kinds
use Rattle.gw_text.specs.declared.condition.Reason.TheVariants as reasons
use Rattle.gw_text.specs.model.Names.{Key, same_key}
use Rattle.gw_text.specs.model.GatewayClasses.{GatewayClass}
use Rattle.gw_text.specs.model.Gateways.{Gateway}
use Rattle.gw_text.specs.model.Routes.{ParentRef, HttpRoute, names_gateway, parent_key}
use Rattle.gw_text.specs.model.Chains.{◌>>=◌}
use Rattle.gw_text.specs.model.Stored.{Stored, objects_of}
use Rattle.gw_text.specs.model.World.{World, class_at, gateway_at, namespace_labels}
use Rattle.gw_text.specs.model.Doors.{Door}
use Rattle.gw_text.specs.model.Conditions.{Condition, true_by, false_by}
use Rattle.gw_text.specs.model.Listeners.{ListenerState, GatewayState, listener_state, gateway_state}
use Rattle.gw_text.specs.model.Attachment.{Attachment, attachment_of}
use Rattle.gw_text.specs.model.References.{resolved_refs_of}

-- The status of a GatewayClass.
pub record ClassStatus : Type 0 where
  pub key : Key
  pub accepted : Condition

-- The status of a listener, with the number of Routes that are attached to it.
pub record ListenerStatus : Type 0 where
  pub name : List ℕ
  pub state : ListenerState
  pub attached : ℕ

-- The status of a Gateway, with those of its listeners in list order.
pub record GatewayStatus : Type 0 where
  pub key : Key
  pub state : GatewayState
  pub listeners : List ListenerStatus

-- The entry of a Route for one of its parentRefs. Source: RouteParentStatus.
pub record ParentStatus : Type 0 where
  pub controller : List ℕ
  pub namespace : List ℕ
  pub name : List ℕ
  pub section : Option (List ℕ)
  pub port : Option ℕ
  pub accepted : Condition
  pub resolved : Condition

-- The status of a Route: its entries, in the order of its parentRefs.
pub record RouteStatus : Type 0 where
  pub key : Key
  pub parents : List ParentStatus

-- All statuses, each kind in key order.
pub record Statuses : Type 0 where
  pub classes : List ClassStatus
  pub gateways : List GatewayStatus
  pub routes : List RouteStatus

-- The class names this controller. Source: GatewayClass, controllerName.
abbrev pub is_ours : List ℕ → GatewayClass → Bool
is_ours controller c = bytes_eq c.controller_name controller

-- Accepted of a GatewayClass: this controller reads no parameters. Source: GatewayClassConditionStatusAccepted.
unfoldable pub class_accepted_of : GatewayClass → Condition
class_accepted_of c =
    if c.parameters_ref then false_by kinds.Accepted reasons.InvalidParameters
    else true_by kinds.Accepted reasons.Accepted

-- The Gateways of a class are managed where it names this controller and is accepted.
abbrev pub manages : List ℕ → GatewayClass → Bool
manages controller c = is_ours controller c && (class_accepted_of c).truth

-- A Gateway is managed where its class is held and its Gateways are managed.
unfoldable pub is_managed : List ℕ → World → Gateway → Bool
is_managed controller w g = option_map_or (λ s. manages controller s.object) (class_at w g.gateway_class_name) false

-- The status of a GatewayClass.
abbrev pub class_status_of : GatewayClass → ClassStatus
class_status_of c = record { key = c.meta.key; accepted = class_accepted_of c }

-- The Gateway, where it is managed.
abbrev pub where_managed : List ℕ → World → Stored Gateway → Option Gateway
where_managed controller w s = if is_managed controller w s.object then Some s.object else None

-- The managed Gateway that a parentRef names, if it is held.
abbrev pub managed_parent : List ℕ → World → ParentRef → Option Gateway
managed_parent controller w p =
    if names_gateway p then gateway_at w (parent_key p) >>= where_managed controller w else None

-- An entry of a Route: a parentRef that names a managed Gateway, and the attachment there.
pub record Entry : Type 0 where
  pub parent : ParentRef
  pub attachment : Attachment

-- The entry of a parentRef of a Route whose namespace has these labels, if it has one.
abbrev pub entry_of : List ℕ → World → List (List ℕ × List ℕ) → HttpRoute → ParentRef → Option Entry
entry_of controller w labels r p =
    option_map (λ g. record { parent = p; attachment = attachment_of g labels r p }) (managed_parent controller w p)

-- The entries of a Route, in the order of its parentRefs.
unfoldable pub entries_of : List ℕ → World → HttpRoute → List Entry
entries_of controller w r = filter_map (entry_of controller w (namespace_labels w r.meta.key.namespace) r) r.parent_refs

-- Some entry attaches the Route to the listener at this place in the list of the Gateway of this key.
abbrev pub is_attached : Key → ℕ → List Entry → Bool
is_attached key place entries = list_any (λ e. same_key key (parent_key e.parent) && list_any (nat_eq place) e.attachment.listeners) entries

-- The number of Routes that are attached to the listener at this place, each counted once. Source: ListenerStatus, attachedRoutes.
unfoldable pub attached_at : List ℕ → World → Key → ℕ → ℕ
attached_at controller w key place = count_by (λ r. is_attached key place (entries_of controller w r)) (objects_of w.routes)

-- The statuses of a Gateway's listeners, in list order.
unfoldable pub listener_statuses_of : List Door → List ℕ → World → Gateway → List ListenerStatus
listener_statuses_of doors controller w g =
    map (λ l. record { name = l.1.name; state = listener_state doors g l.0 l.1; attached = attached_at controller w g.meta.key l.0 })
    (enumerate_from 0 g.listeners)

-- The status of a Gateway that is managed.
unfoldable pub gateway_status_of : List Door → List ℕ → World → Gateway → GatewayStatus
gateway_status_of doors controller w g = record {
  key = g.meta.key;
  state = gateway_state doors g;
  listeners = listener_statuses_of doors controller w g;
}

-- What an entry says, for a Route whose references are so resolved. Source: RouteParentStatus.
abbrev pub parent_status_of : List ℕ → Condition → Entry → ParentStatus
parent_status_of controller resolved e = record {
  controller = controller;
  namespace = e.parent.namespace;
  name = e.parent.name;
  section = e.parent.section_name;
  port = e.parent.port;
  accepted = e.attachment.accepted;
  resolved = resolved;
}

-- What the entries of a Route say, in their order.
unfoldable pub parent_statuses_of : List ℕ → World → HttpRoute → List ParentStatus
parent_statuses_of controller w r = map (parent_status_of controller (resolved_refs_of w r)) (entries_of controller w r)

-- The status of a Route.
abbrev pub route_status_of : List ℕ → World → HttpRoute → RouteStatus
route_status_of controller w r = record { key = r.meta.key; parents = parent_statuses_of controller w r }

-- The statuses of the classes of this controller.
abbrev pub class_statuses_of : List ℕ → World → List ClassStatus
class_statuses_of controller w = map class_status_of (filter (is_ours controller) (objects_of w.classes))

-- The statuses of the Gateways that it manages.
abbrev pub gateway_statuses_of : List Door → List ℕ → World → List GatewayStatus
gateway_statuses_of doors controller w = map (gateway_status_of doors controller w) (filter (is_managed controller w) (objects_of w.gateways))

-- The statuses of all Routes.
abbrev pub route_statuses_of : List ℕ → World → List RouteStatus
route_statuses_of controller w = map (route_status_of controller w) (objects_of w.routes)

-- All statuses of a world.
abbrev pub statuses_of : List Door → List ℕ → World → Statuses
statuses_of doors controller w = record {
  classes = class_statuses_of controller w;
  gateways = gateway_statuses_of doors controller w;
  routes = route_statuses_of controller w;
}
