-- Conditions of a status. Source: Condition of the Kubernetes API, and the types and reasons of conditions in the Gateway
-- API reference.
use Rattle.std.specs.Prelude.{ℕ, List, Bool, true, false, codes}
use Rattle.gw_text.specs.declared.condition.CondKind.{CondKind}
use Rattle.gw_text.specs.declared.condition.CondKind.TheVariants as kinds
use Rattle.gw_text.specs.declared.condition.Reason.{Reason}
use Rattle.gw_text.specs.declared.condition.Reason.TheVariants as reasons

-- A condition: its type, whether its status is True, and why.
pub record Condition : Type 0 where
  pub kind : CondKind
  pub truth : Bool
  pub reason : Reason

-- A condition that is True.
abbrev pub true_by : CondKind → Reason → Condition
true_by kind reason = record { kind = kind; truth = true; reason = reason }

-- A condition that is False.
abbrev pub false_by : CondKind → Reason → Condition
false_by kind reason = record { kind = kind; truth = false; reason = reason }

-- How types are written.
abbrev pub condition_kind_text : CondKind → List ℕ
condition_kind_text kinds.Accepted = codes "Accepted"
condition_kind_text kinds.Conflicted = codes "Conflicted"
condition_kind_text kinds.Programmed = codes "Programmed"
condition_kind_text kinds.ResolvedRefs = codes "ResolvedRefs"

-- How reasons are written.
unfoldable pub reason_text : Reason → List ℕ
reason_text reasons.Accepted = codes "Accepted"
reason_text reasons.AddressNotAssigned = codes "AddressNotAssigned"
reason_text reasons.AddressNotUsable = codes "AddressNotUsable"
reason_text reasons.BackendNotFound = codes "BackendNotFound"
reason_text reasons.HostnameConflict = codes "HostnameConflict"
reason_text reasons.IncompatibleFilters = codes "IncompatibleFilters"
reason_text reasons.Invalid = codes "Invalid"
reason_text reasons.InvalidKind = codes "InvalidKind"
reason_text reasons.InvalidParameters = codes "InvalidParameters"
reason_text reasons.InvalidRouteKinds = codes "InvalidRouteKinds"
reason_text reasons.ListenersNotValid = codes "ListenersNotValid"
reason_text reasons.NoConflicts = codes "NoConflicts"
reason_text reasons.NoMatchingListenerHostname = codes "NoMatchingListenerHostname"
reason_text reasons.NoMatchingParent = codes "NoMatchingParent"
reason_text reasons.NotAllowedByListeners = codes "NotAllowedByListeners"
reason_text reasons.PortUnavailable = codes "PortUnavailable"
reason_text reasons.Programmed = codes "Programmed"
reason_text reasons.ProtocolConflict = codes "ProtocolConflict"
reason_text reasons.RefNotPermitted = codes "RefNotPermitted"
reason_text reasons.ResolvedRefs = codes "ResolvedRefs"
reason_text reasons.UnsupportedAddress = codes "UnsupportedAddress"
reason_text reasons.UnsupportedProtocol = codes "UnsupportedProtocol"
reason_text reasons.UnsupportedValue = codes "UnsupportedValue"
