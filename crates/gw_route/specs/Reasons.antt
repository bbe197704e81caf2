-- How the reason of a Route's attachment stands for the plain one. Source: the reasons of RouteConditionAccepted.
use Rattle.gw_route.specs.declared.reason.RouteReason.{RouteReason}
use Rattle.gw_route.specs.declared.reason.RouteReason.TheVariants.{Accepted, NoMatchingParent, NotAllowedByListeners, NoMatchingListenerHostname, UnsupportedValue, IncompatibleFilters}
use Rattle.gw_text.specs.declared.condition.CondKind.TheVariants as kinds
use Rattle.gw_text.specs.declared.condition.Reason.{Reason}
use Rattle.gw_text.specs.declared.condition.Reason.TheVariants as reasons
use Rattle.gw_text.specs.model.Conditions.{Condition, true_by, false_by}

-- The reason of a condition.
abbrev pub seen_reason : RouteReason → Reason
seen_reason Accepted = reasons.Accepted
seen_reason NoMatchingParent = reasons.NoMatchingParent
seen_reason NotAllowedByListeners = reasons.NotAllowedByListeners
seen_reason NoMatchingListenerHostname = reasons.NoMatchingListenerHostname
seen_reason UnsupportedValue = reasons.UnsupportedValue
seen_reason IncompatibleFilters = reasons.IncompatibleFilters

-- The condition Accepted of a reason: True for Accepted alone.
abbrev pub condition_of : RouteReason → Condition
condition_of Accepted = true_by kinds.Accepted reasons.Accepted
condition_of NoMatchingParent = false_by kinds.Accepted reasons.NoMatchingParent
condition_of NotAllowedByListeners = false_by kinds.Accepted reasons.NotAllowedByListeners
condition_of NoMatchingListenerHostname = false_by kinds.Accepted reasons.NoMatchingListenerHostname
condition_of UnsupportedValue = false_by kinds.Accepted reasons.UnsupportedValue
condition_of IncompatibleFilters = false_by kinds.Accepted reasons.IncompatibleFilters
