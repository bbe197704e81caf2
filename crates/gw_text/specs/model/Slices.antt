-- EndpointSlices. Source: EndpointSlice of the Kubernetes API, discovery.k8s.io/v1.
use Rattle.std.specs.Prelude.{ℕ, List, Bool, true, false, Option}
use Rattle.std.specs.declared.net.ipv4_addr.Ipv4Addr.{Ipv4Addr}
use Rattle.gw_text.specs.declared.types.EndpointAddressType.{EndpointAddressType}
use Rattle.gw_text.specs.declared.types.EndpointAddressType.TheVariants as endpoint_address_types
use Rattle.gw_text.specs.model.Meta.{Meta}

-- Source: EndpointPort.
pub record EndpointPort : Type 0 where
  -- empty where the port has none
  pub name : List ℕ
  pub port : Option ℕ
  pub protocol : List ℕ

-- An endpoint. Source: Endpoint, EndpointConditions.
pub record Endpoint : Type 0 where
  -- the first address, where the slice's are of IPv4
  pub address : Option Ipv4Addr
  -- conditions.ready; absent means ready
  pub ready : Bool

-- An EndpointSlice.
pub record EndpointSlice : Type 0 where
  pub meta : Meta
  -- keys and values in the byte order of the keys
  pub labels : List (List ℕ × List ℕ)
  pub address_type : EndpointAddressType
  pub ports : List EndpointPort
  pub endpoints : List Endpoint

-- The addresses are of IPv4. Source: AddressType.
abbrev pub is_ipv4_type : EndpointAddressType → Bool
is_ipv4_type endpoint_address_types.Ipv4 = true
is_ipv4_type (endpoint_address_types.Other name) = false
