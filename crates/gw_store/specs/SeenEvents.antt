-- How the events of the code stand for the plain ones.
use Rattle.gw_text.specs.model.Objects.{Object as PlainObject, a_class, a_gateway, a_route, a_grant, a_namespace, a_service, a_slice, Event as PlainEvent, puts, removes}
use Rattle.gw_json.specs.Fields.{node_of}
use Rattle.gw_store.specs.Events.{Written as Plain, Read as PlainRead, a_change, is_skipped}
use Rattle.gw_store.specs.declared.event.Object.{Object}
use Rattle.gw_store.specs.declared.event.Object.TheVariants.{GatewayClass, Gateway, HttpRoute, ReferenceGrant, Namespace, Service, EndpointSlice}
use Rattle.gw_store.specs.declared.event.Event.{Event}
use Rattle.gw_store.specs.declared.event.Event.TheVariants.{Put, Remove}
use Rattle.gw_store.specs.declared.event.Read.{Read}
use Rattle.gw_store.specs.declared.event.Read.TheVariants.{Change, Skipped}
use Rattle.gw_store.specs.declared.read.Written.{Written}

-- An object.
abbrev pub seen_object : Object → PlainObject
seen_object (GatewayClass x) = a_class x
seen_object (Gateway x) = a_gateway x
seen_object (HttpRoute x) = a_route x
seen_object (ReferenceGrant x) = a_grant x
seen_object (Namespace x) = a_namespace x
seen_object (Service x) = a_service x
seen_object (EndpointSlice x) = a_slice x

-- An event.
abbrev pub seen_event : Event → PlainEvent
seen_event (Put object) = puts (seen_object object)
seen_event (Remove kind key) = removes kind key

-- What a line says.
abbrev pub seen_read : Read → PlainRead
seen_read (Change event) = a_change (seen_event event)
seen_read Skipped = is_skipped

-- An event as it is written.
abbrev pub seen_written : Written → Plain
seen_written w = record { sort = w.sort; version = w.version.now; kind = w.kind.now; object = node_of w.object }
