-- The forms of texts in objects: at most so many bytes, and then what the text gives.
use Rattle.std.specs.Prelude.{ℕ, ℤ, List, Some, Result}
use Rattle.std.specs.declared.net.ipv4_addr.Ipv4Addr.{Ipv4Addr}
use Rattle.gw_json.specs.declared.refusal.Refusal.{Refusal}
use Rattle.gw_json.specs.Fields.{Node}
use Rattle.gw_json.specs.Presence.{parsed, any_length}
use Rattle.gw_text.specs.declared.types.AddressType.{AddressType}
use Rattle.gw_text.specs.declared.types.EndpointAddressType.{EndpointAddressType}
use Rattle.gw_text.specs.declared.types.PathMatchType.{PathMatchType}
use Rattle.gw_text.specs.declared.types.Protocol.{Protocol}
use Rattle.gw_text.specs.declared.types.ValueMatchType.{ValueMatchType}
use Rattle.gw_text.specs.model.Addresses.{ipv4_of}
use Rattle.gw_text.specs.model.Forms.{name_of, namespace_of, host_of}
use Rattle.gw_text.specs.model.Hostnames.{Host}
use Rattle.gw_text.specs.model.Moments.{second_of}
use Rattle.gw_text.specs.model.Types.{protocol_of, address_type_of, endpoint_address_type_of, path_match_type_of, value_match_type_of}
use Rattle.gw_forms.specs.declared.plain.Plain.{Plain}
use Rattle.gw_forms.specs.declared.plain.Plain.TheVariants.{Word, PreciseHostname, Token, FieldValue, Replacement, ParameterName, ParameterValue}
use Rattle.gw_forms.specs.Plains.{limit, kept}

-- A text of that form, as it is.
abbrev pub plain : Plain → Node → Result (List ℕ) Refusal
plain form = parsed (limit form) (kept form)

-- Any text of at most 512 bytes.
abbrev pub word : Node → Result (List ℕ) Refusal
word = plain Word

-- A hostname without a wildcard.
abbrev pub precise_hostname : Node → Result (List ℕ) Refusal
precise_hostname = plain PreciseHostname

-- The name of a field of an HTTP message.
abbrev pub token : Node → Result (List ℕ) Refusal
token = plain Token

-- The value of such a field.
abbrev pub field_value : Node → Result (List ℕ) Refusal
field_value = plain FieldValue

-- What replaces a path or its prefix.
abbrev pub replacement : Node → Result (List ℕ) Refusal
replacement = plain Replacement

-- The name of a query parameter.
abbrev pub parameter_name : Node → Result (List ℕ) Refusal
parameter_name = plain ParameterName

-- The value of a query parameter.
abbrev pub parameter_value : Node → Result (List ℕ) Refusal
parameter_value = plain ParameterValue

-- The name of an object, of at most 253 bytes.
abbrev pub name : Node → Result (List ℕ) Refusal
name = parsed 253 name_of

-- The name of a namespace, of at most 63 bytes.
abbrev pub namespace : Node → Result (List ℕ) Refusal
namespace = parsed 63 namespace_of

-- A hostname, which may begin with `*.`, of at most 253 bytes.
abbrev pub hostname : Node → Result Host Refusal
hostname = parsed 253 host_of

-- A moment, as RFC 3339 writes it in UTC and in whole seconds.
abbrev pub moment : Node → Result ℤ Refusal
moment = parsed any_length second_of

-- An address of IPv4.
abbrev pub ipv4_address : Node → Result Ipv4Addr Refusal
ipv4_address = parsed any_length ipv4_of

-- A word that names a type.
abbrev pub named : {A : Type 0} → (List ℕ → A) → Node → Result A Refusal
named type_of = parsed 512 (λ name. Some (type_of name))

-- The protocol of a listener.
abbrev pub protocol : Node → Result Protocol Refusal
protocol = named protocol_of

-- The type of an address that a Gateway asks for.
abbrev pub address_type : Node → Result AddressType Refusal
address_type = named address_type_of

-- The type of the addresses of an EndpointSlice.
abbrev pub endpoint_address_type : Node → Result EndpointAddressType Refusal
endpoint_address_type = named endpoint_address_type_of

-- The type of a match of a path.
abbrev pub path_match_type : Node → Result PathMatchType Refusal
path_match_type = named path_match_type_of

-- The type of a match of a field or of a query parameter.
abbrev pub value_match_type : Node → Result ValueMatchType Refusal
value_match_type = named value_match_type_of
