-- The conditions of a Gateway and of its listeners: tables in which the first row that holds counts. A listener is one of a
-- Gateway's list, and its place there tells it from the others. Source: GatewayStatus, ListenerStatus and their condition
-- types in the Gateway API reference.
use Rattle.std.specs.Prelude.{ℕ, List, [], ◌∷◌, codes, Bool, true, false, not, ◌&&◌, ◌||◌, ◌==◌, bytes_eq, if◌then◌else◌, Option, Some, None, is_some, option_map, map}
use Rattle.std.specs.List.{list_any, list_all, enumerate_from}
use Rattle.std.specs.declared.net.ipv4_addr.Ipv4Addr.{Ipv4Addr}
use Rattle.gw_text.specs.declared.condition.CondKind.TheVariants as kinds
use Rattle.gw_text.specs.declared.condition.Reason.TheVariants as reasons
use Rattle.gw_text.specs.model.Hostnames.{same_hostname}
use Rattle.gw_text.specs.model.Gateways.{RouteKind, Listener, Address, Gateway, is_http_protocol, is_over_tcp_protocol, is_ip_address_type}
use Rattle.gw_text.specs.model.Kinds.{gateway_group}
use Rattle.gw_text.specs.model.Addresses.{Socket, ipv4_of, same_ipv4, address_of}
use Rattle.gw_text.specs.model.Doors.{Door, first_door, has_port}
use Rattle.gw_text.specs.model.Conditions.{Condition, true_by, false_by}

-- The protocol is HTTP, the one that is served. Source: ProtocolType.
abbrev pub is_http : Listener → Bool
is_http l = is_http_protocol l.protocol

-- The protocol is another that wants the port of TCP for itself: HTTPS, TLS or TCP.
abbrev pub is_over_tcp : Listener → Bool
is_over_tcp l = is_over_tcp_protocol l.protocol

-- Two listeners on one port, of which one is HTTP and the other HTTPS, TLS or TCP.
abbrev pub have_protocol_conflict : Listener → Listener → Bool
have_protocol_conflict l o = l.port == o.port && ((is_http l && is_over_tcp o) || (is_over_tcp l && is_http o))

-- Two HTTP listeners on one port with one hostname.
abbrev pub have_hostname_conflict : Listener → Listener → Bool
have_hostname_conflict l o = l.port == o.port && is_http l && is_http o && same_hostname l.hostname o.hostname

-- A listener at another place of the list is in this relation to the one at this place.
abbrev pub some_other : (Listener → Listener → Bool) → ℕ → Listener → List Listener → Bool
some_other relation place l all = list_any (λ o. not (o.0 == place) && relation l o.1) (enumerate_from 0 all)

-- Conflicted of the listener at a place of the Gateway's list. All listeners of a conflict are conflicted. Source:
-- ListenerConditionConflicted.
unfoldable pub conflicted_of : Gateway → ℕ → Listener → Condition
conflicted_of g place l =
    if some_other have_protocol_conflict place l g.listeners then true_by kinds.Conflicted reasons.ProtocolConflict
    else (if some_other have_hostname_conflict place l g.listeners then true_by kinds.Conflicted reasons.HostnameConflict
    else false_by kinds.Conflicted reasons.NoConflicts)

-- HTTPRoute of the Gateway API.
abbrev pub is_http_route : RouteKind → Bool
is_http_route k = bytes_eq k.group gateway_group && bytes_eq k.kind (codes "HTTPRoute")

-- No kinds are named.
abbrev pub names_none : List RouteKind → Bool
names_none [] = true
names_none (k ∷ kinds) = false

-- HTTPRoute is a supported kind of the listener: its protocol is HTTP, and it names no kinds, or HTTPRoute among them.
-- Source: ListenerStatus, supportedKinds.
unfoldable pub supports_http_route : Listener → Bool
supports_http_route l = is_http l && (names_none l.allowed_routes.kinds || list_any is_http_route l.allowed_routes.kinds)

-- A kind that the listener names is not supported there.
unfoldable pub has_unsupported_kind : Listener → Bool
has_unsupported_kind l = list_any (λ k. not (is_http l && is_http_route k)) l.allowed_routes.kinds

-- Accepted of the listener at a place of the Gateway's list. Source: ListenerConditionAccepted.
unfoldable pub listener_accepted_of : List Door → Gateway → ℕ → Listener → Condition
listener_accepted_of doors g place l =
    if (conflicted_of g place l).truth then false_by kinds.Accepted (conflicted_of g place l).reason
    else (if not (is_http l) then false_by kinds.Accepted reasons.UnsupportedProtocol
    else (if not (has_port g.meta.key l.port doors) then false_by kinds.Accepted reasons.PortUnavailable
    else true_by kinds.Accepted reasons.Accepted))

-- ResolvedRefs of a listener. Source: ListenerConditionResolvedRefs.
unfoldable pub resolved_of : Listener → Condition
resolved_of l =
    if has_unsupported_kind l then false_by kinds.ResolvedRefs reasons.InvalidRouteKinds
    else true_by kinds.ResolvedRefs reasons.ResolvedRefs

-- An address of the type that is supported. Source: AddressType.
abbrev pub is_ip_address : Address → Bool
is_ip_address a = is_ip_address_type a.sort

-- A value that is given, and not empty.
abbrev pub given_value : Option (List ℕ) → Option (List ℕ)
given_value None = None
given_value (Some []) = None
given_value (Some (b ∷ value)) = Some (b ∷ value)

-- The address is the door's; what is no address of IPv4 isn't.
abbrev pub is_address_of : Door → Option Ipv4Addr → Bool
is_address_of door None = false
is_address_of door (Some address) = same_ipv4 address (address_of door.at)

-- A value that is given is not the door's address.
abbrev pub is_another_address : Door → Option (List ℕ) → Bool
is_another_address door None = false
is_another_address door (Some value) = not (is_address_of door (ipv4_of value))

-- An IPAddress is asked for that is not the address of the Gateway's doors. Without a door nothing is compared.
abbrev pub is_unusable : Option Door → Address → Bool
is_unusable None a = false
is_unusable (Some door) a = is_ip_address a && is_another_address door (given_value a.value)

-- Some address of the Gateway is of another type.
unfoldable pub has_unsupported_address : Gateway → Bool
has_unsupported_address g = list_any (λ a. not (is_ip_address a)) g.addresses

-- Some address of the Gateway isn't that of its doors.
unfoldable pub has_unusable_address : List Door → Gateway → Bool
has_unusable_address doors g = list_any (is_unusable (first_door g.meta.key doors)) g.addresses

-- What keeps all listeners of a Gateway from being programmed: an address of another type, no door, or another address.
unfoldable pub has_address_fault : List Door → Gateway → Bool
has_address_fault doors g =
    has_unsupported_address g || not (is_some (first_door g.meta.key doors)) || has_unusable_address doors g

-- Programmed of the listener at a place of the Gateway's list. Source: ListenerConditionProgrammed.
unfoldable pub listener_programmed_of : List Door → Gateway → ℕ → Listener → Condition
listener_programmed_of doors g place l =
    if (listener_accepted_of doors g place l).truth && supports_http_route l && not (has_address_fault doors g)
    then true_by kinds.Programmed reasons.Programmed
    else false_by kinds.Programmed reasons.Invalid

-- The conditions of a listener, and whether HTTPRoute is a supported kind.
pub record ListenerState : Type 0 where
  pub accepted : Condition
  pub conflicted : Condition
  pub resolved : Condition
  pub programmed : Condition
  pub http : Bool

-- The state of the listener at a place of the Gateway's list.
unfoldable pub listener_state : List Door → Gateway → ℕ → Listener → ListenerState
listener_state doors g place l = record {
  accepted = listener_accepted_of doors g place l;
  conflicted = conflicted_of g place l;
  resolved = resolved_of l;
  programmed = listener_programmed_of doors g place l;
  http = supports_http_route l;
}

-- The states of the Gateway's listeners, in list order.
unfoldable pub listener_states : List Door → Gateway → List ListenerState
listener_states doors g = map (λ p. listener_state doors g p.0 p.1) (enumerate_from 0 g.listeners)

-- Accepted of a Gateway. Source: GatewayConditionAccepted.
unfoldable pub gateway_accepted_of : List Door → Gateway → Condition
gateway_accepted_of doors g =
    if has_unsupported_address g then false_by kinds.Accepted reasons.UnsupportedAddress
    else (if not (list_any (λ s. s.accepted.truth) (listener_states doors g)) then false_by kinds.Accepted reasons.ListenersNotValid
    else (if not (list_all (λ s. s.accepted.truth) (listener_states doors g)) then true_by kinds.Accepted reasons.ListenersNotValid
    else true_by kinds.Accepted reasons.Accepted))

-- Programmed of a Gateway. Source: GatewayConditionProgrammed.
unfoldable pub gateway_programmed_of : List Door → Gateway → Condition
gateway_programmed_of doors g =
    if not (is_some (first_door g.meta.key doors)) then false_by kinds.Programmed reasons.AddressNotAssigned
    else (if has_unusable_address doors g then false_by kinds.Programmed reasons.AddressNotUsable
    else (if not ((gateway_accepted_of doors g).truth && list_any (λ s. s.programmed.truth) (listener_states doors g))
    then false_by kinds.Programmed reasons.Invalid
    else true_by kinds.Programmed reasons.Programmed))

-- The conditions of a Gateway, and the socket of its first door where it is programmed.
pub record GatewayState : Type 0 where
  pub accepted : Condition
  pub programmed : Condition
  pub address : Option Socket

-- The socket of the first door, of a Gateway that is programmed.
abbrev pub address_in : Bool → Option Door → Option Socket
address_in true door = option_map (λ d. d.at) door
address_in false door = None

-- The state of a Gateway.
unfoldable pub gateway_state : List Door → Gateway → GatewayState
gateway_state doors g = record {
  accepted = gateway_accepted_of doors g;
  programmed = gateway_programmed_of doors g;
  address = address_in (gateway_programmed_of doors g).truth (first_door g.meta.key doors);
}
