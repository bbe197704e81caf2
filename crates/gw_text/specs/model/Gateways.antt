-- Gateways and their listeners. Source: Gateway of the Gateway API reference.
use Rattle.std.specs.Prelude.{ℕ, List, Bool, true, false, Option}
use Rattle.gw_text.specs.declared.types.Protocol.{Protocol}
use Rattle.gw_text.specs.declared.types.Protocol.TheVariants as protocols
use Rattle.gw_text.specs.declared.types.AddressType.{AddressType}
use Rattle.gw_text.specs.declared.types.AddressType.TheVariants as address_types
use Rattle.gw_text.specs.declared.types.FromNamespaces.{FromNamespaces}
use Rattle.gw_text.specs.model.Hostnames.{Host}
use Rattle.gw_text.specs.model.Meta.{Meta}
use Rattle.gw_text.specs.model.Selectors.{Requirement}

-- A kind of Route. Source: RouteGroupKind.
pub record RouteKind : Type 0 where
  pub group : List ℕ
  pub kind : List ℕ

-- Which Routes may attach to a listener. Source: AllowedRoutes.
pub record AllowedRoutes : Type 0 where
  -- all namespaces, the Gateway's own, or those that the selector accepts
  pub from : FromNamespaces
  -- read where from is Selector; an absent selector accepts no namespace, one without requirements accepts all
  pub selector : Option (List Requirement)
  -- the kinds that it names, if any
  pub kinds : List RouteKind

-- A listener of a Gateway.
pub record Listener : Type 0 where
  -- it differs from the names of the Gateway's other listeners
  pub name : List ℕ
  -- an absent hostname takes requests for all
  pub hostname : Option Host
  pub port : ℕ
  pub protocol : Protocol
  pub allowed_routes : AllowedRoutes

-- An address that the Gateway asks for. Source: GatewaySpecAddress.
pub record Address : Type 0 where
  -- its type, as IPAddress
  pub sort : AddressType
  pub value : Option (List ℕ)

-- A Gateway.
pub record Gateway : Type 0 where
  pub meta : Meta
  -- the GatewayClass to which it belongs
  pub gateway_class_name : List ℕ
  -- one or more
  pub listeners : List Listener
  pub addresses : List Address

-- HTTP, the protocol that is served. Source: ProtocolType.
abbrev pub is_http_protocol : Protocol → Bool
is_http_protocol protocols.Http = true
is_http_protocol protocols.Https = false
is_http_protocol protocols.Tls = false
is_http_protocol protocols.Tcp = false
is_http_protocol (protocols.Other name) = false

-- Another protocol that wants the port of TCP for itself.
abbrev pub is_over_tcp_protocol : Protocol → Bool
is_over_tcp_protocol protocols.Http = false
is_over_tcp_protocol protocols.Https = true
is_over_tcp_protocol protocols.Tls = true
is_over_tcp_protocol protocols.Tcp = true
is_over_tcp_protocol (protocols.Other name) = false

-- The type of address that is supported. Source: AddressType.
abbrev pub is_ip_address_type : AddressType → Bool
is_ip_address_type address_types.IpAddress = true
is_ip_address_type (address_types.Other name) = false
