-- Names of conditions, and their order. A status has its conditions in lists, each of which has one of each type: that of a GatewayClass,
-- that of a Gateway, that of each of its listeners, that of each parentRef of a Route. Source: Condition of the Kubernetes API;
-- GatewayClassStatus, GatewayStatus, ListenerStatus and RouteParentStatus of the Gateway API reference.
use Rattle.std.specs.Prelude.{◌≡◌, ◌↔◌, ℕ, List, [], Bool, true, Option, None}
use Rattle.std.specs.Cmp.Lexicographic.{slice_cmp}
use Rattle.std.specs.Option.{option_cmp}
use Rattle.std.specs.Ordering.{nat_cmp, ordering_then, is_eq}
use Rattle.std.specs.declared.cmp.Ordering.{Ordering}
use Rattle.gw_text.specs.declared.condition.CondKind.{CondKind}
use Rattle.gw_text.specs.declared.condition.CondKind.TheVariants as kinds
use Rattle.gw_text.specs.model.Names.{Key}
use Rattle.gw_stamp.specs.declared.name.Owner.{Owner}
use Rattle.gw_stamp.specs.declared.name.Owner.TheVariants as owners
use Rattle.gw_stamp.specs.declared.name.Part.{Part}
use Rattle.gw_stamp.specs.declared.name.Part.TheVariants as parts

-- The name of a condition: the kind and the key of the object in whose status it stands, its type, and the part of the status.
pub record CondName : Type 0 where
  pub owner : Owner
  pub key : Key
  pub kind : CondKind
  pub part : Part

-- Classes, Gateways, Routes.
abbrev pub owner_place : Owner → ℕ
owner_place owners.Class = 0
owner_place owners.Gateway = 1
owner_place owners.Route = 2

-- Types in the byte order of their texts.
abbrev pub kind_place : CondKind → ℕ
kind_place kinds.Accepted = 0
kind_place kinds.Conflicted = 1
kind_place kinds.Programmed = 2
kind_place kinds.ResolvedRefs = 3

-- The object itself, listeners, parentRefs.
abbrev pub part_place : Part → ℕ
part_place parts.Whole = 0
part_place (parts.Listener name) = 1
part_place (parts.Parent namespace name section port number) = 2

-- The namespace that a parentRef names.
abbrev pub part_namespace : Part → List ℕ
part_namespace parts.Whole = []
part_namespace (parts.Listener name) = []
part_namespace (parts.Parent namespace name section port number) = namespace

-- The name of a listener, or that which a parentRef names.
abbrev pub part_name : Part → List ℕ
part_name parts.Whole = []
part_name (parts.Listener name) = name
part_name (parts.Parent namespace name section port number) = name

-- The section name of a parentRef.
abbrev pub part_section : Part → Option (List ℕ)
part_section parts.Whole = None
part_section (parts.Listener name) = None
part_section (parts.Parent namespace name section port number) = section

-- The port of a parentRef.
abbrev pub part_port : Part → Option ℕ
part_port parts.Whole = None
part_port (parts.Listener name) = None
part_port (parts.Parent namespace name section port number) = port

-- The number of a parentRef among those that are equal to it.
abbrev pub part_number : Part → ℕ
part_number parts.Whole = 0
part_number (parts.Listener name) = 0
part_number (parts.Parent namespace name section port number) = number

-- Parts by their kinds, then by their fields.
abbrev pub part_order : Part → Part → Ordering
part_order a b =
    ordering_then (nat_cmp (part_place a) (part_place b))
    (ordering_then (slice_cmp nat_cmp (part_namespace a) (part_namespace b))
    (ordering_then (slice_cmp nat_cmp (part_name a) (part_name b))
    (ordering_then (option_cmp (slice_cmp nat_cmp) (part_section a) (part_section b))
    (ordering_then (option_cmp nat_cmp (part_port a) (part_port b))
    (nat_cmp (part_number a) (part_number b))))))

-- Objects by their kinds, namespaces and names.
abbrev pub object_order : CondName → CondName → Ordering
object_order a b =
    ordering_then (nat_cmp (owner_place a.owner) (owner_place b.owner))
    (ordering_then (slice_cmp nat_cmp a.key.namespace b.key.namespace)
    (slice_cmp nat_cmp a.key.name b.key.name))

-- Names by their objects, then by their parts, then by their types.
unfoldable pub name_order : CondName → CondName → Ordering
name_order a b =
    ordering_then (object_order a b)
    (ordering_then (part_order a.part b.part)
    (nat_cmp (kind_place a.kind) (kind_place b.kind)))

-- Two names are the same where neither stands before the other.
abbrev pub same_name : CondName → CondName → Bool
same_name a b = is_eq (name_order a b)

-- Names that are the same are equal, and no others.
abbrev pub AreSameIfEqual : Type 0
AreSameIfEqual = (a b : CondName) → (same_name a b ≡ true) ↔ (a ≡ b)
