-- The conditions of statuses with their names, in the order in which they are printed.
use Rattle.std.specs.Prelude.{ℕ, List, [], ◌∷◌, ◌++◌, Bool, ◌&&◌, bytes_eq, nat_eq, map, flat_map, count_by}
use Rattle.std.specs.Option.{option_eq}
use Rattle.gw_text.specs.model.Conditions.{Condition}
use Rattle.gw_text.specs.model.Names.{Key}
use Rattle.gw_text.specs.model.Statuses.{ClassStatus, ListenerStatus, GatewayStatus, ParentStatus, RouteStatus, Statuses}
use Rattle.gw_status.specs.StatusText.{class_conditions, gateway_conditions, listener_conditions, parent_conditions}
use Rattle.gw_stamp.specs.declared.name.Owner.{Owner}
use Rattle.gw_stamp.specs.declared.name.Owner.TheVariants as owners
use Rattle.gw_stamp.specs.declared.name.Part.{Part}
use Rattle.gw_stamp.specs.declared.name.Part.TheVariants as parts
use Rattle.gw_stamp.specs.Names.{CondName}

-- A condition of a part of an object's status: its name, and whether its status is True.
abbrev pub condition_at : Owner → Key → Part → Condition → CondName × Bool
condition_at owner key part c = (record { owner = owner; key = key; kind = c.kind; part = part }, c.truth)

-- The conditions of a part.
abbrev pub conditions_at : Owner → Key → Part → List Condition → List (CondName × Bool)
conditions_at owner key part conditions = map (condition_at owner key part) conditions

-- The conditions of a class.
abbrev pub class_stated : ClassStatus → List (CondName × Bool)
class_stated s = conditions_at owners.Class s.key parts.Whole (class_conditions s)

-- The conditions of a listener.
abbrev pub listener_stated : Key → ListenerStatus → List (CondName × Bool)
listener_stated key s = conditions_at owners.Gateway key (parts.Listener s.name) (listener_conditions s.state)

-- The conditions of a Gateway, and then those of its listeners.
abbrev pub gateway_stated : GatewayStatus → List (CondName × Bool)
gateway_stated s =
    conditions_at owners.Gateway s.key parts.Whole (gateway_conditions s.state) ++ flat_map (listener_stated s.key) s.listeners

-- Two entries of a Route are for equal parentRefs.
abbrev pub same_parent : ParentStatus → ParentStatus → Bool
same_parent a b =
    bytes_eq a.namespace b.namespace && bytes_eq a.name b.name && option_eq bytes_eq a.section b.section && option_eq nat_eq a.port b.port

-- The part of an entry for a parentRef, of which there are so many equal ones before.
abbrev pub parent_part : ℕ → ParentStatus → Part
parent_part number s = parts.Parent s.namespace s.name s.section s.port number

-- The conditions of an entry.
abbrev pub parent_stated : Key → ℕ → ParentStatus → List (CondName × Bool)
parent_stated key number s = conditions_at owners.Route key (parent_part number s) (parent_conditions s)

-- The conditions of the entries behind others: equal parentRefs are told apart by their number among them.
abbrev pub parents_stated : Key → List ParentStatus → List ParentStatus → List (CondName × Bool)
parents_stated key before [] = []
parents_stated key before (s ∷ parents) = parent_stated key (count_by (same_parent s) before) s ++ parents_stated key (before ++ s ∷ []) parents

-- The conditions of a Route's entries.
abbrev pub route_stated : RouteStatus → List (CondName × Bool)
route_stated s = parents_stated s.key [] s.parents

-- The conditions of all statuses.
abbrev pub stated_of : Statuses → List (CondName × Bool)
stated_of s = flat_map class_stated s.classes ++ flat_map gateway_stated s.gateways ++ flat_map route_stated s.routes

-- Their names.
abbrev pub names_of : Statuses → List CondName
names_of s = map (λ c. c.0) (stated_of s)
