-- Which listeners of a Gateway a Route is attached to by one of its parentRefs, or why it is refused. Source: ParentReference,
-- AllowedRoutes and RouteParentStatus of the Gateway API reference.
use Rattle.std.specs.Prelude.{ℕ, List, [], Bool, true, not, ◌&&◌, ◌==◌, bytes_eq, if◌then◌else◌, Option, Some, None, map, filter}
use Rattle.std.specs.List.{list_any, enumerate_from}
use Rattle.std.specs.Option.{option_map_or}
use Rattle.gw_text.specs.declared.condition.CondKind.TheVariants as kinds
use Rattle.gw_text.specs.declared.condition.Reason.{Reason}
use Rattle.gw_text.specs.declared.condition.Reason.TheVariants as reasons
use Rattle.gw_text.specs.declared.types.FromNamespaces.{FromNamespaces}
use Rattle.gw_text.specs.declared.types.FromNamespaces.TheVariants as namespaces
use Rattle.gw_text.specs.model.Conditions.{Condition, true_by, false_by}
use Rattle.gw_text.specs.model.Gateways.{Listener, Gateway}
use Rattle.gw_text.specs.model.Hostnames.{meets_some}
use Rattle.gw_text.specs.model.Listeners.{supports_http_route}
use Rattle.gw_text.specs.model.Routes.{ParentRef, HttpRoute}
use Rattle.gw_text.specs.model.Selectors.{Requirement, selector_accepts}
use Rattle.gw_text.specs.model.Unsupported.{unsupported_of}

-- The parentRef selects the listener: it gives no section name or the listener's name, and no port or the listener's port.
-- Source: ParentReference, sectionName and port.
abbrev pub selects : ParentRef → Listener → Bool
selects p l = option_map_or (bytes_eq l.name) p.section_name true && option_map_or (λ port. port == l.port) p.port true

-- From which namespaces a listener takes Routes: from all, from the Gateway's own, or from those whose labels its selector
-- accepts. Source: RouteNamespaces.
abbrev pub takes_from : FromNamespaces → Option (List Requirement) → List ℕ → List ℕ → List (List ℕ × List ℕ) → Bool
takes_from namespaces.All selector own other labels = true
takes_from namespaces.Same selector own other labels = bytes_eq own other
takes_from namespaces.Selector selector own other labels = selector_accepts selector labels

-- The listener allows the Route, whose namespace has these labels. Source: AllowedRoutes.
unfoldable pub allows : Gateway → List (List ℕ × List ℕ) → HttpRoute → Listener → Bool
allows g labels r l =
    supports_http_route l
    && takes_from l.allowed_routes.from l.allowed_routes.selector g.meta.key.namespace r.meta.key.namespace labels

-- The listener is selected, and allows the Route.
abbrev pub selects_and_allows : Gateway → List (List ℕ × List ℕ) → HttpRoute → ParentRef → Listener → Bool
selects_and_allows g labels r p l = selects p l && allows g labels r l

-- The listener is selected, allows the Route, and has a hostname in common with it.
abbrev pub takes : Gateway → List (List ℕ × List ℕ) → HttpRoute → ParentRef → Listener → Bool
takes g labels r p l = selects_and_allows g labels r p l && meets_some l.hostname r.hostnames

-- Accepted, but for a reason against it.
abbrev pub accepted_unless : Option Reason → Condition
accepted_unless None = true_by kinds.Accepted reasons.Accepted
accepted_unless (Some reason) = false_by kinds.Accepted reason

-- Accepted of a Route, whose namespace has these labels, at the Gateway that its parentRef names. Source: RouteConditionAccepted.
unfoldable pub route_accepted_of : Gateway → List (List ℕ × List ℕ) → HttpRoute → ParentRef → Condition
route_accepted_of g labels r p =
    if not (list_any (selects p) g.listeners) then false_by kinds.Accepted reasons.NoMatchingParent
    else (if not (list_any (selects_and_allows g labels r p) g.listeners) then false_by kinds.Accepted reasons.NotAllowedByListeners
    else (if not (list_any (takes g labels r p) g.listeners) then false_by kinds.Accepted reasons.NoMatchingListenerHostname
    else accepted_unless (unsupported_of r)))

-- The places of the listeners that are left, in the Gateway's list.
abbrev pub places_of : (Listener → Bool) → List Listener → List ℕ
places_of test listeners = map (λ p. p.0) (filter (λ p. test p.1) (enumerate_from 0 listeners))

-- Whether the Route is accepted, and the places of the listeners at which it is attached.
pub record Attachment : Type 0 where
  pub accepted : Condition
  pub listeners : List ℕ

-- The attachment of a Route, whose namespace has these labels, by a parentRef that names the Gateway. A Route that isn't
-- accepted is attached nowhere.
unfoldable pub attachment_of : Gateway → List (List ℕ × List ℕ) → HttpRoute → ParentRef → Attachment
attachment_of g labels r p = record {
  accepted = route_accepted_of g labels r p;
  listeners = if (route_accepted_of g labels r p).truth then places_of (takes g labels r p) g.listeners else [];
}
