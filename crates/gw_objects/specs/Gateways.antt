-- A Gateway, field by field. Source: Gateway of the Gateway API reference.
use Rattle.std.specs.Prelude.{ℕ, List, [], ◌∷◌, ◌++◌, codes, bytes_eq, Bool, not, if◌then◌else◌, nat_lt, length, Option, Some, None, option_map, Result, Ok}
use Rattle.std.specs.List.{list_any}
use Rattle.gw_json.specs.declared.refusal.Refusal.{Refusal}
use Rattle.gw_json.specs.declared.refusal.Refusal.TheVariants.{BadValue}
use Rattle.gw_json.specs.Words.{◌>>=◌, want}
use Rattle.gw_json.specs.Fields.{Node, items_of}
use Rattle.gw_json.specs.Presence.{needed, given, defaulted, listed, parsed, any_length, spec_of, port_of}
use Rattle.gw_text.specs.declared.types.AddressType.TheVariants.{IpAddress}
use Rattle.gw_text.specs.declared.types.FromNamespaces.{FromNamespaces}
use Rattle.gw_text.specs.declared.types.FromNamespaces.TheVariants.{All, Same, Selector}
use Rattle.gw_text.specs.declared.kind.TheConstants.{GATEWAY_GROUP}
use Rattle.gw_text.specs.model.Meta.{Meta}
use Rattle.gw_labels.specs.Selectors.{Requirement}
use Rattle.gw_text.specs.model.Gateways.{RouteKind, AllowedRoutes, Listener, Address, Gateway}
use Rattle.gw_objects.specs.declared.fields.TheConstants.{GATEWAY_CLASS_NAME, ALLOWED_ROUTES}
use Rattle.gw_forms.specs.Forms as forms
use Rattle.gw_objects.specs.Seen.{seen_selector}
use Rattle.gw_objects.specs.Selectors.{selector_of}

-- The namespaces of that name: FromNamespaces.
unfoldable pub named_from : List ℕ → Option FromNamespaces
named_from t =
    if bytes_eq t (codes "All") then Some All
    else (if bytes_eq t (codes "Same") then Some Same
    else (if bytes_eq t (codes "Selector") then Some Selector
    else None))

-- The selector, which is read where from is Selector.
abbrev pub selector_for : FromNamespaces → Node → Result (Option (List Requirement)) Refusal
selector_for Selector at = given selector_of (codes "selector") at
selector_for All at = Ok None
selector_for Same at = Ok None

-- From where Routes may come: the namespaces, and the selector. Source: RouteNamespaces.
unfoldable pub namespaces_of : Node → Result (FromNamespaces × Option (List Requirement)) Refusal
namespaces_of at = do
  from ← defaulted Same (parsed any_length named_from) (codes "from") at
  selector ← selector_for from at
  Ok (from, selector)

-- An item of allowedRoutes.kinds: RouteGroupKind.
unfoldable pub route_kind_of : Node → Result RouteKind Refusal
route_kind_of at = do
  group ← defaulted GATEWAY_GROUP.now forms.word (codes "group") at
  kind ← needed forms.word (codes "kind") at
  Ok (record { group = group; kind = kind })

-- The fields of allowedRoutes, in the order in which they are read.
unfoldable pub allowed_routes_of : Node → Result AllowedRoutes Refusal
allowed_routes_of at = do
  namespaces ← defaulted (Same, None) namespaces_of (codes "namespaces") at
  kinds ← listed 8 route_kind_of (codes "kinds") at
  Ok (record { from = namespaces.0; selector = option_map seen_selector namespaces.1; kinds = kinds })

-- Where nothing is said, Routes of the Gateway's own namespace may attach.
abbrev pub own_routes : AllowedRoutes
own_routes = record { from = Same; selector = None; kinds = [] }

-- One of the listeners has this name.
unfoldable pub is_among : List ℕ → List Listener → Bool
is_among name listeners = list_any (λ l. bytes_eq l.name name) listeners

-- A name that none of the earlier listeners has.
unfoldable pub own_name_of : List Listener → Node → Result (List ℕ) Refusal
own_name_of earlier at = do
  name ← forms.name at
  _ ← want (BadValue at.path) (not (is_among name earlier))
  Ok name

-- The fields of a listener, in the order in which they are read, after the listeners before it.
unfoldable pub listener_of : List Listener → Node → Result Listener Refusal
listener_of earlier at = do
  name ← needed (own_name_of earlier) (codes "name") at
  hostname ← given forms.hostname (codes "hostname") at
  port ← needed port_of (codes "port") at
  protocol ← needed forms.protocol (codes "protocol") at
  allowed_routes ← defaulted own_routes allowed_routes_of ALLOWED_ROUTES.now at
  Ok (record { name = name; hostname = hostname; port = port; protocol = protocol; allowed_routes = allowed_routes })

-- Each of the rest, after those that were read before.
abbrev pub listeners_from : List Listener → List Node → Result (List Listener) Refusal
listeners_from earlier [] = Ok []
listeners_from earlier (at ∷ nodes) =
    listener_of earlier at >>= λ l. listeners_from (earlier ++ l ∷ []) nodes >>= λ ls. Ok (l ∷ ls)

-- The listeners: one or more, and at most 64.
unfoldable pub listeners_of : Node → Result (List Listener) Refusal
listeners_of at = do
  nodes ← items_of 64 at
  _ ← want (BadValue at.path) (nat_lt 0 (length nodes))
  listeners_from [] nodes

-- An item of spec.addresses: GatewaySpecAddress.
unfoldable pub address_of : Node → Result Address Refusal
address_of at = do
  sort ← defaulted IpAddress forms.address_type (codes "type") at
  value ← given forms.word (codes "value") at
  Ok (record { sort = sort; value = value })

-- The fields of a Gateway, in the order in which they are read.
unfoldable pub gateway_of : Meta → Node → Result Gateway Refusal
gateway_of meta at = do
  spec ← spec_of at
  gateway_class_name ← needed forms.name GATEWAY_CLASS_NAME.now spec
  listeners ← needed listeners_of (codes "listeners") spec
  addresses ← listed 16 address_of (codes "addresses") spec
  Ok (record { meta = meta; gateway_class_name = gateway_class_name; listeners = listeners; addresses = addresses })
