-- Types that objects name by texts; one that isn't read further is kept by its name.
use Rattle.std.specs.Prelude.{ℕ, List, codes, bytes_eq, if◌then◌else◌}
use Rattle.gw_text.specs.declared.types.Protocol.{Protocol}
use Rattle.gw_text.specs.declared.types.Protocol.TheVariants as protocols
use Rattle.gw_text.specs.declared.types.AddressType.{AddressType}
use Rattle.gw_text.specs.declared.types.AddressType.TheVariants as address_types
use Rattle.gw_text.specs.declared.types.EndpointAddressType.{EndpointAddressType}
use Rattle.gw_text.specs.declared.types.EndpointAddressType.TheVariants as endpoint_address_types
use Rattle.gw_text.specs.declared.types.PathMatchType.{PathMatchType}
use Rattle.gw_text.specs.declared.types.PathMatchType.TheVariants as path_types
use Rattle.gw_text.specs.declared.types.ValueMatchType.{ValueMatchType}
use Rattle.gw_text.specs.declared.types.ValueMatchType.TheVariants as value_types

-- The protocol of a listener. Source: ProtocolType of the Gateway API reference.
unfoldable pub protocol_of : List ℕ → Protocol
protocol_of name =
    if bytes_eq name (codes "HTTP") then protocols.Http
    else (if bytes_eq name (codes "HTTPS") then protocols.Https
    else (if bytes_eq name (codes "TLS") then protocols.Tls
    else (if bytes_eq name (codes "TCP") then protocols.Tcp
    else protocols.Other name)))

-- The type of an address that a Gateway asks for. Source: AddressType of the Gateway API reference.
unfoldable pub address_type_of : List ℕ → AddressType
address_type_of name = if bytes_eq name (codes "IPAddress") then address_types.IpAddress else address_types.Other name

-- The type of the addresses of an EndpointSlice. Source: AddressType of discovery.k8s.io/v1.
unfoldable pub endpoint_address_type_of : List ℕ → EndpointAddressType
endpoint_address_type_of name = if bytes_eq name (codes "IPv4") then endpoint_address_types.Ipv4 else endpoint_address_types.Other name

-- The type of a match of a path. Source: PathMatchType of the Gateway API reference.
unfoldable pub path_match_type_of : List ℕ → PathMatchType
path_match_type_of name =
    if bytes_eq name (codes "Exact") then path_types.Exact
    else (if bytes_eq name (codes "PathPrefix") then path_types.PathPrefix
    else path_types.Other name)

-- The type of a match of a field or of a query parameter. Source: HeaderMatchType and QueryParamMatchType of the Gateway API
-- reference.
unfoldable pub value_match_type_of : List ℕ → ValueMatchType
value_match_type_of name = if bytes_eq name (codes "Exact") then value_types.Exact else value_types.Other name
