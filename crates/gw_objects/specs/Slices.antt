-- An EndpointSlice, field by field. Source: EndpointSlice of the Kubernetes API, discovery.k8s.io/v1.
use Rattle.std.specs.Prelude.{ℕ, List, [], ◌∷◌, codes, Bool, true, if◌then◌else◌, Option, Some, None, Result, Ok, Err}
use Rattle.std.specs.declared.net.ipv4_addr.Ipv4Addr.{Ipv4Addr}
use Rattle.gw_json.specs.declared.refusal.Refusal.{Refusal}
use Rattle.gw_json.specs.declared.refusal.Refusal.TheVariants.{BadValue}
use Rattle.gw_json.specs.Words.{◌>>=◌}
use Rattle.gw_json.specs.Fields.{Node, items_of, truth_of}
use Rattle.gw_json.specs.Presence.{needed, given, defaulted, listed, any_length, port_of}
use Rattle.gw_text.specs.declared.types.EndpointAddressType.{EndpointAddressType}
use Rattle.gw_text.specs.model.Meta.{Meta}
use Rattle.gw_text.specs.model.Slices.{EndpointPort, Endpoint, EndpointSlice, is_ipv4_type}
use Rattle.gw_objects.specs.declared.fields.TheConstants.{ADDRESS_TYPE}
use Rattle.gw_forms.specs.Forms as forms
use Rattle.gw_objects.specs.Labels.{labels_of}

-- The fields of an item of ports, in the order in which they are read: EndpointPort.
unfoldable pub endpoint_port_of : Node → Result EndpointPort Refusal
endpoint_port_of at = do
  name ← defaulted (codes "") forms.word (codes "name") at
  port ← given port_of (codes "port") at
  protocol ← defaulted (codes "TCP") forms.word (codes "protocol") at
  Ok (record { name = name; port = port; protocol = protocol })

-- The first of a list that must not be empty.
abbrev pub first_of : List ℕ → List Node → Result Node Refusal
first_of path [] = Err (BadValue path)
first_of path (node ∷ nodes) = Ok node

-- The first address, which must be there and be one of IPv4.
unfoldable pub first_ipv4_of : List ℕ → List Node → Result (Option Ipv4Addr) Refusal
first_ipv4_of path nodes = do
  node ← first_of path nodes
  address ← forms.ipv4_address node
  Ok (Some address)

-- The addresses are a list. The first of them is read where they are of IPv4.
unfoldable pub addresses_of : EndpointAddressType → Node → Result (Option Ipv4Addr) Refusal
addresses_of address_type at = do
  nodes ← items_of any_length at
  if is_ipv4_type address_type then first_ipv4_of at.path nodes else Ok None

-- The conditions of an endpoint say whether it is ready, and without a word it is: EndpointConditions.
unfoldable pub conditions_of : Node → Result Bool Refusal
conditions_of at = defaulted true truth_of (codes "ready") at

-- The fields of an item of endpoints, in the order in which they are read: Endpoint.
unfoldable pub endpoint_of : EndpointAddressType → Node → Result Endpoint Refusal
endpoint_of address_type at = do
  address ← needed (addresses_of address_type) (codes "addresses") at
  ready ← defaulted true conditions_of (codes "conditions") at
  Ok (record { address = address; ready = ready })

-- The fields of an EndpointSlice, in the order in which they are read.
unfoldable pub slice_of : Meta → Node → Result EndpointSlice Refusal
slice_of meta at = do
  labels ← labels_of at
  address_type ← needed forms.endpoint_address_type ADDRESS_TYPE.now at
  ports ← listed 1024 endpoint_port_of (codes "ports") at
  endpoints ← listed any_length (endpoint_of address_type) (codes "endpoints") at
  Ok (record { meta = meta; labels = labels; address_type = address_type; ports = ports; endpoints = endpoints })
