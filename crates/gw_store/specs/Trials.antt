-- What is kept of a change is enough to undo it.
use Rattle.std.specs.Prelude.{◌≡◌, ◌<◌, ◌-◌, Option, Some, None, option_map}
use Rattle.gw_text.specs.model.Names.{Key}
use Rattle.gw_text.specs.model.Objects.{Object, a_class, a_gateway, a_route, a_grant, a_namespace, a_service, a_slice, Event, puts, removes}
use Rattle.gw_text.specs.declared.kind.Kind.{Kind}
use Rattle.gw_store.specs.Stores.{Store}
use Rattle.gw_store.specs.Table.{Content}
use Rattle.gw_store.specs.declared.world.Undo.{Undo}
use Rattle.gw_store.specs.declared.world.Undo.TheVariants.{GatewayClass, Gateway, HttpRoute, ReferenceGrant, Namespace, Service, EndpointSlice}

-- The object that was put, if one was.
abbrev pub put_by : Undo → Option Object
put_by (GatewayClass d) = option_map a_class d.put
put_by (Gateway d) = option_map a_gateway d.put
put_by (HttpRoute d) = option_map a_route d.put
put_by (ReferenceGrant d) = option_map a_grant d.put
put_by (Namespace d) = option_map a_namespace d.put
put_by (Service d) = option_map a_service d.put
put_by (EndpointSlice d) = option_map a_slice d.put

-- The objects of its kind are still as the change left them.
abbrev pub IsLeft : Undo → Store → Type 0
IsLeft (GatewayClass d) s = record { stored = s.world.classes; spare = s.rooms.classes } ≡ d.after
IsLeft (Gateway d) s = record { stored = s.world.gateways; spare = s.rooms.gateways } ≡ d.after
IsLeft (HttpRoute d) s = record { stored = s.world.routes; spare = s.rooms.routes } ≡ d.after
IsLeft (ReferenceGrant d) s = record { stored = s.world.grants; spare = s.rooms.grants } ≡ d.after
IsLeft (Namespace d) s = record { stored = s.world.namespaces; spare = s.rooms.namespaces } ≡ d.after
IsLeft (Service d) s = record { stored = s.world.services; spare = s.rooms.services } ≡ d.after
IsLeft (EndpointSlice d) s = record {
  stored = s.world.slices;
  spare = s.rooms.slices;
  index = record { slices = s.by_service; spares = s.rooms.by_service };
} ≡ d.after

-- The store in which the objects of its kind are as before.
abbrev pub restored : Undo → Store → Store
restored (GatewayClass d) s = record s { world = record s.world { classes = d.before.stored }; rooms = record s.rooms { classes = d.before.spare } }
restored (Gateway d) s = record s { world = record s.world { gateways = d.before.stored }; rooms = record s.rooms { gateways = d.before.spare } }
restored (HttpRoute d) s = record s { world = record s.world { routes = d.before.stored }; rooms = record s.rooms { routes = d.before.spare } }
restored (ReferenceGrant d) s = record s { world = record s.world { grants = d.before.stored }; rooms = record s.rooms { grants = d.before.spare } }
restored (Namespace d) s = record s { world = record s.world { namespaces = d.before.stored }; rooms = record s.rooms { namespaces = d.before.spare } }
restored (Service d) s = record s { world = record s.world { services = d.before.stored }; rooms = record s.rooms { services = d.before.spare } }
restored (EndpointSlice d) s = record {
  world = record s.world { slices = d.before.stored };
  rooms = record s.rooms { slices = d.before.spare; by_service = d.before.index.spares };
  by_service = d.before.index.slices;
}

-- The event of a put of this object, or of a removal of this kind and key.
abbrev pub IsEventOf : Option Object → Option (Kind × Key) → Event → Type 0
IsEventOf put (Some removed) event = event ≡ removes removed.0 removed.1
IsEventOf (Some object) None event = event ≡ puts object
IsEventOf None None event = ⊥

-- The store with one change less counted.
abbrev pub one_less : Store → Store
one_less s = record s { world = record s.world { changes = s.world.changes - 1 } }

-- What is kept of a change, with the store before it and after it.
pub record IsTrial (undo : Undo) (removed : Option (Kind × Key)) (event : Event) (before after : Store) : Type 0 where
  pub counted : 0 < after.world.changes
  pub left : IsLeft undo (one_less after)
  pub restored : restored undo (one_less after) ≡ before
  pub named : IsEventOf (put_by undo) removed event
