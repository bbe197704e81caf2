-- What a line of a watch says. Source: WatchEvent of the Kubernetes API.
use Rattle.std.specs.Prelude.{ℕ, List, [], codes, not, if◌then◌else◌, Option, Some, None, option_and_then, is_some, Result, Ok}
use Rattle.serde_json.specs.Data.{Data}
use Rattle.serde_json.specs.Find.{get, as_str, as_object}
use Rattle.gw_json.specs.declared.refusal.Refusal.{Refusal}
use Rattle.gw_json.specs.declared.refusal.Refusal.TheVariants.{NotEvent, Full}
use Rattle.gw_json.specs.Words.{◌>>=◌, or, want}
use Rattle.gw_json.specs.Fields.{Node}
use Rattle.gw_json.specs.Lines.{value_of}
use Rattle.gw_objects.specs.Metadata.{meta_of, key_of}
use Rattle.gw_objects.specs.Classes.{class_of}
use Rattle.gw_objects.specs.Gateways.{gateway_of}
use Rattle.gw_objects.specs.Grants.{grant_of}
use Rattle.gw_objects.specs.Namespaces.{namespace_of}
use Rattle.gw_objects.specs.Services.{service_of}
use Rattle.gw_objects.specs.Slices.{slice_of}
use Rattle.gw_route.specs.Routes.{route_of}
use Rattle.gw_text.specs.model.Meta.{Meta}
use Rattle.gw_text.specs.declared.kind.Kind.{Kind}
use Rattle.gw_text.specs.declared.kind.Kind.TheVariants as kinds
use Rattle.gw_text.specs.model.Kinds.{row_of, kind_of}
use Rattle.gw_text.specs.model.Objects.{Object, a_class, a_gateway, a_route, a_grant, a_namespace, a_service, a_slice, Event, puts, removes}
use Rattle.gw_text.specs.model.World.{World, is_full}
use Rattle.gw_store.specs.declared.event.EventType.{EventType}
use Rattle.gw_store.specs.declared.event.EventType.TheVariants.{Added, Modified, Deleted, Bookmark, Error}
use Rattle.gw_store.specs.EventTypes.{event_type_of}

-- An event as it is written: its type, and its object with its version and kind.
pub record Written : Type 0 where
  pub sort : EventType
  pub version : List ℕ
  pub kind : List ℕ
  pub object : Node

-- The text of a member.
abbrev pub text_in : List ℕ → Data → Option (List ℕ)
text_in name d = option_and_then as_str (get name d)

-- An object, as the value of a member.
abbrev pub object_in : List ℕ → Data → Option Data
object_in name d = option_and_then (λ o. if is_some (as_object o) then Some o else None) (get name d)

-- A value that is an event.
unfoldable pub written_of : Data → Result Written Refusal
written_of d = do
  name ← or NotEvent (text_in (codes "type") d)
  sort ← or NotEvent (event_type_of name)
  object ← or NotEvent (object_in (codes "object") d)
  kind ← or NotEvent (text_in (codes "kind") object)
  version ← or NotEvent (text_in (codes "apiVersion") object)
  Ok (record { sort = sort; version = version; kind = kind; object = record { value = object; path = [] } })

-- The object of a kind, whose metadata is read.
abbrev pub body_of : Kind → Meta → Node → Result Object Refusal
body_of kinds.GatewayClass meta at = class_of meta at >>= λ x. Ok (a_class x)
body_of kinds.Gateway meta at = gateway_of meta at >>= λ x. Ok (a_gateway x)
body_of kinds.HttpRoute meta at = route_of meta at >>= λ x. Ok (a_route x)
body_of kinds.ReferenceGrant meta at = grant_of meta at >>= λ x. Ok (a_grant x)
body_of kinds.Namespace meta at = namespace_of meta at >>= λ x. Ok (a_namespace x)
body_of kinds.Service meta at = service_of meta at >>= λ x. Ok (a_service x)
body_of kinds.EndpointSlice meta at = slice_of meta at >>= λ x. Ok (a_slice x)

-- An object: its metadata first, then the fields of its kind.
unfoldable pub object_of : Kind → Node → Result Object Refusal
object_of kind at = do
  meta ← meta_of (row_of kind).name at
  body_of kind meta at

-- What is read: a change, or nothing that concerns the objects that are held.
pub data Read : Type 0 where
  a_change : Event → Read
  is_skipped : Read

-- What an event does to the object of a kind that is read: ADDED and MODIFIED put it; DELETED takes away the object of its
-- key, of which nothing else is read; BOOKMARK and ERROR tell of no change.
abbrev pub read_by : EventType → Kind → Node → Result Read Refusal
read_by Added kind at = object_of kind at >>= λ object. Ok (a_change (puts object))
read_by Modified kind at = object_of kind at >>= λ object. Ok (a_change (puts object))
read_by Deleted kind at = key_of (row_of kind).name at >>= λ key. Ok (a_change (removes kind key))
read_by Bookmark kind at = Ok is_skipped
read_by Error kind at = Ok is_skipped

-- Objects of other kinds or versions are skipped.
abbrev pub read_as : Option Kind → Written → Result Read Refusal
read_as None w = Ok is_skipped
read_as (Some kind) w = read_by w.sort kind w.object

-- What a line says: JSON, an event, and then what it does.
unfoldable pub read_of : List ℕ → Result Read Refusal
read_of line = do
  value ← value_of line
  written ← written_of value
  read_as (kind_of written.version written.kind) written

-- A change has to find room.
abbrev pub taken : World → Read → Result Read Refusal
taken w is_skipped = Ok is_skipped
taken w (a_change event) = want Full (not (is_full w event)) >>= λ _. Ok (a_change event)

-- What a line is answered over a world.
unfoldable pub answer : World → List ℕ → Result Read Refusal
answer w line = do
  read ← read_of line
  taken w read
