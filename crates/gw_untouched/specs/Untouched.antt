-- What a change doesn't touch stays as it was.
use Rattle.std.specs.Prelude.{◌≡◌, ◌⊎◌, ℕ, ℤ, List, Bool, true, false, IfSome}
use Rattle.gw_text.specs.declared.kind.Kind.{Kind}
use Rattle.gw_text.specs.declared.kind.Kind.TheVariants as kinds
use Rattle.gw_text.specs.model.Doors.{Door}
use Rattle.gw_text.specs.model.Names.{Key}
use Rattle.gw_text.specs.model.Objects.{Event}
use Rattle.gw_text.specs.model.Plans.{plans_of}
use Rattle.gw_text.specs.model.Routes.{HttpRoute}
use Rattle.gw_text.specs.model.Statuses.{entries_of, route_status_of}
use Rattle.gw_text.specs.model.Stored.{Stored, IsInKeyOrder}
use Rattle.gw_text.specs.model.World.{World, class_key, gateway_key, route_key, grant_key, namespace_key, service_key, slice_key, apply, changed, gateway_at, route_at}
use Rattle.gw_rows.specs.model.DoorRows.{managed_at, served_at}
use Rattle.gw_deps.specs.Edges.{has_key}
use Rattle.gw_deps.specs.Indexes.{AreAlike}
use Rattle.gw_deps.specs.Touching.{event_kind, event_key, gateways_in, routes_in}
use Rattle.gw_eval.specs.Results.{gateway_status_at, route_result_at, route_result_of}

-- Objects of one kind stand in key order, and no other key ties with this one.
pub record IsTableFor {T : Type 0} (key_of : T → Key) (key : Key) (stored : List (Stored T)) : Type 0 where
  pub order : IsInKeyOrder key_of stored
  pub alike : AreAlike key_of key stored

-- So stand those of the kind of an object that changes, which has this key.
abbrev pub IsOrdered : World → Kind → Key → Type 0
IsOrdered w kinds.GatewayClass key = IsTableFor class_key key w.classes
IsOrdered w kinds.Gateway key = IsTableFor gateway_key key w.gateways
IsOrdered w kinds.HttpRoute key = IsTableFor route_key key w.routes
IsOrdered w kinds.ReferenceGrant key = IsTableFor grant_key key w.grants
IsOrdered w kinds.Namespace key = IsTableFor namespace_key key w.namespaces
IsOrdered w kinds.Service key = IsTableFor service_key key w.services
IsOrdered w kinds.EndpointSlice key = IsTableFor slice_key key w.slices

-- Neither in the world before a change nor in the one after it does the Route of this key depend on the object of that kind and key.
pub record IsRouteUntouched (w after : World) (kind : Kind) (key : Key) (route : Key) : Type 0 where
  pub earlier : has_key route (routes_in w kind key) ≡ false
  pub later : has_key route (routes_in after kind key) ≡ false

-- Nor does the Gateway of this key.
pub record IsGatewayUntouched (w after : World) (kind : Kind) (key : Key) (gateway : Key) : Type 0 where
  pub earlier : has_key gateway (gateways_in w kind key) ≡ false
  pub later : has_key gateway (gateways_in after kind key) ≡ false

-- The world is the one after the event, before the change is counted or with it.
abbrev pub IsAfter : World → Event → ℤ → World → Type 0
IsAfter w event at after = (after ≡ changed w event at) ⊎ (after ≡ apply w (record { event = event; at = at }))

-- The event leaves the Route of this key as it was: it doesn't touch it.
abbrev pub LeavesRoute : World → Event → ℤ → Key → Type 0
LeavesRoute w event at route = IsRouteUntouched w (changed w event at) (event_kind event) (event_key event) route

-- It leaves the Gateway of this key.
abbrev pub LeavesGateway : World → Event → ℤ → Key → Type 0
LeavesGateway w event at gateway = IsGatewayUntouched w (changed w event at) (event_kind event) (event_key event) gateway

-- The objects of the kind that the event changes stand in order.
abbrev pub IsOrderedFor : World → Event → Type 0
IsOrderedFor w event = IsOrdered w (event_kind event) (event_key event)

-- What is evaluated of a Route is the same in both worlds.
pub record IsSameRoute (controller : List ℕ) (w after : World) (r : HttpRoute) : Type 0 where
  pub result : route_result_of controller after r ≡ route_result_of controller w r
  pub status : route_status_of controller after r ≡ route_status_of controller w r
  pub entries : entries_of controller after r ≡ entries_of controller w r
  pub plans : plans_of after r ≡ plans_of w r

-- The Route of this key stays as it was, where it is held, and so does what is evaluated of it.
pub record RouteStays (controller : List ℕ) (w after : World) (key : Key) : Type 0 where
  pub held : route_at after key ≡ route_at w key
  pub evaluated : IfSome (route_at w key) (λ s. IsSameRoute controller w after s.object)
  pub result : route_result_at controller after key ≡ route_result_at controller w key

-- The Gateway of this key stays as it was, where it is held, and so does what is evaluated of it: whether it is managed, its status with
-- the numbers of attached Routes, and what is served at its doors.
pub record GatewayStays (doors : List Door) (controller : List ℕ) (w after : World) (key : Key) : Type 0 where
  pub held : gateway_at after key ≡ gateway_at w key
  pub managed : managed_at controller after key ≡ managed_at controller w key
  pub status : gateway_status_at doors controller after key ≡ gateway_status_at doors controller w key
  pub served : (door : Door) → door.gateway ≡ key → served_at doors controller after door ≡ served_at doors controller w door
