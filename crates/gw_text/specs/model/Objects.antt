-- Objects of the seven kinds that are read, and the events that put and remove them.
use Rattle.std.specs.Prelude.{ℤ}
use Rattle.gw_text.specs.declared.kind.Kind.{Kind}
use Rattle.gw_text.specs.declared.kind.Kind.TheVariants as kinds
use Rattle.gw_text.specs.model.Names.{Key}
use Rattle.gw_text.specs.model.GatewayClasses.{GatewayClass}
use Rattle.gw_text.specs.model.Gateways.{Gateway}
use Rattle.gw_text.specs.model.Grants.{ReferenceGrant}
use Rattle.gw_text.specs.model.Namespaces.{Namespace}
use Rattle.gw_text.specs.model.Routes.{HttpRoute}
use Rattle.gw_text.specs.model.Services.{Service}
use Rattle.gw_text.specs.model.Slices.{EndpointSlice}

-- An object of one of the kinds.
pub data Object : Type 0 where
  a_class : GatewayClass → Object
  a_gateway : Gateway → Object
  a_route : HttpRoute → Object
  a_grant : ReferenceGrant → Object
  a_namespace : Namespace → Object
  a_service : Service → Object
  a_slice : EndpointSlice → Object

-- What an event of a watch does: it puts an object under its kind and key, or takes away the one of a kind and key.
-- Source: WatchEvent of the Kubernetes API.
pub data Event : Type 0 where
  puts : Object → Event
  removes : Kind → Key → Event

-- An event, and the moment at which it comes.
pub record Change : Type 0 where
  pub event : Event
  pub at : ℤ

-- The kind of an object.
abbrev pub object_kind : Object → Kind
object_kind (a_class x) = kinds.GatewayClass
object_kind (a_gateway x) = kinds.Gateway
object_kind (a_route x) = kinds.HttpRoute
object_kind (a_grant x) = kinds.ReferenceGrant
object_kind (a_namespace x) = kinds.Namespace
object_kind (a_service x) = kinds.Service
object_kind (a_slice x) = kinds.EndpointSlice

-- The key of an object.
abbrev pub object_key : Object → Key
object_key (a_class x) = x.meta.key
object_key (a_gateway x) = x.meta.key
object_key (a_route x) = x.meta.key
object_key (a_grant x) = x.meta.key
object_key (a_namespace x) = x.meta.key
object_key (a_service x) = x.meta.key
object_key (a_slice x) = x.meta.key
