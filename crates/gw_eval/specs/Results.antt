-- What is evaluated of one Gateway and of one Route.
use Rattle.std.specs.Prelude.{ℕ, List, map, flat_map, Option, option_map}
use Rattle.std.specs.List.{filter_map}
use Rattle.gw_text.specs.declared.condition.Reason.{Reason}
use Rattle.gw_text.specs.model.Attachment.{Attachment}
use Rattle.gw_text.specs.model.Conditions.{Condition}
use Rattle.gw_text.specs.model.Doors.{Door}
use Rattle.gw_text.specs.model.Names.{Key}
use Rattle.gw_text.specs.model.Plans.{Plan, plans_of}
use Rattle.gw_text.specs.model.References.{backend_state_in, first_of, resolved_unless, unresolved}
use Rattle.gw_text.specs.model.Routes.{BackendRef, HttpRoute, Rule}
use Rattle.gw_text.specs.model.Statuses.{GatewayStatus, ParentStatus, entries_of, gateway_status_of, parent_statuses_of}
use Rattle.gw_text.specs.model.World.{World, route_at}
use Rattle.gw_rows.specs.model.DoorRows.{managed_at}

-- Its status.
abbrev pub gateway_status_at : List Door → List ℕ → World → Key → Option GatewayStatus
gateway_status_at doors controller w key = option_map (gateway_status_of doors controller w) (managed_at controller w key)

-- A Route: what its entries say, where each of them attaches it, and what its rules do.
pub record RouteResult : Type 0 where
  pub parents : List ParentStatus
  pub places : List Attachment
  pub plans : List Plan

-- The result of a Route.
abbrev pub route_result_of : List ℕ → World → HttpRoute → RouteResult
route_result_of controller w r = record {
  parents = parent_statuses_of controller w r;
  places = map (λ e. e.attachment) (entries_of controller w r);
  plans = plans_of w r;
}

-- The result of the Route of this key, where it is held.
abbrev pub route_result_at : List ℕ → World → Key → Option RouteResult
route_result_at controller w key = option_map (λ s. route_result_of controller w s.object) (route_at w key)

-- Why the first of these backendRefs, of a Route of this namespace, that isn't resolved isn't.
unfoldable pub first_fault_of : World → List ℕ → List BackendRef → Option Reason
first_fault_of w namespace refs = first_of (filter_map (λ b. unresolved (backend_state_in w namespace b)) refs)

-- That of the backendRefs of these rules.
unfoldable pub first_fault_in : World → List ℕ → List Rule → Option Reason
first_fault_in w namespace rules = first_fault_of w namespace (flat_map (λ rule. rule.backend_refs) rules)

-- ResolvedRefs of these rules.
unfoldable pub resolved_in : World → List ℕ → List Rule → Condition
resolved_in w namespace rules = resolved_unless (first_fault_in w namespace rules)
