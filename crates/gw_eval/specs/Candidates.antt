-- How the rows of a door are made in the body: each Route is evaluated once for all listeners. The rows themselves are defined
-- without it.
use Rattle.std.specs.Prelude.{ℕ, List, [], Bool, if◌then◌else◌, nat_eq, not, ◌==◌, get_or, length, map, filter, flat_map}
use Rattle.std.specs.List.{enumerate_from, list_any}
use Rattle.gw_text.specs.model.Doors.{Door}
use Rattle.gw_text.specs.model.Names.{Key, same_key}
use Rattle.gw_text.specs.model.Plans.{Plan, plan_of}
use Rattle.gw_text.specs.model.Routes.{Rule, HttpRoute, parent_key}
use Rattle.gw_text.specs.model.Statuses.{Entry, entries_of}
use Rattle.gw_text.specs.model.Stored.{Stored}
use Rattle.gw_text.specs.model.World.{World}
use Rattle.gw_eval.specs.Kept.{AttachedAt, KeptRoute}
use Rattle.gw_rows.specs.model.Rows.{Row, ServedListener}
use Rattle.gw_rows.specs.model.DoorRows.{RouteHostname, hostnames_for, row_of}

-- A rule of a Route, with its place and what it does.
pub record PlannedRule : Type 0 where
  pub number : ℕ
  pub rule : Rule
  pub plan : Plan

-- The rule at a place of a Route of this namespace.
abbrev pub planned_rule : World → List ℕ → ℕ × Rule → PlannedRule
planned_rule w namespace p = record { number = p.0; rule = p.1; plan = plan_of w namespace p.1 }

-- The rules of a Route of this namespace.
abbrev pub planned_rules : World → List ℕ → List Rule → List PlannedRule
planned_rules w namespace rules = map (planned_rule w namespace) (enumerate_from 0 rules)

-- A Route, the places of the listeners of the door's Gateway to which its entries attach it, and its rules.
pub record Candidate : Type 0 where
  pub route : Stored HttpRoute
  pub places : List ℕ
  pub rules : List PlannedRule

-- The listeners of the Gateway of this key to which an entry attaches its Route.
abbrev pub places_of : Key → Entry → List ℕ
places_of key e = if same_key key (parent_key e.parent) then e.attachment.listeners else []

-- Those to which some entry does.
abbrev pub places_in : Key → List Entry → List ℕ
places_in key entries = flat_map (places_of key) entries

-- What is evaluated of a Route.
abbrev pub candidate_of : List ℕ → World → Door → Stored HttpRoute → Candidate
candidate_of controller w door s = record {
  route = s;
  places = places_in door.gateway (entries_of controller w s.object);
  rules = planned_rules w s.object.meta.key.namespace s.object.rules;
}

-- Some entry attaches the Route to a listener of the Gateway.
abbrev pub has_places : Candidate → Bool
has_places c = not (length c.places == 0)

-- The listeners of the Gateway of this key to which an entry attaches its Route, as they are kept.
abbrev pub places_at : Key → AttachedAt → List ℕ
places_at key at = if same_key key at.gateway then at.listeners else []

-- What no rule does.
abbrev pub no_plan : Plan
no_plan = record { filters = []; backends = [] }

-- The rule at a place, with the plan there.
abbrev pub rule_with : List Plan → ℕ × Rule → PlannedRule
rule_with plans p = record { number = p.0; rule = p.1; plan = get_or plans p.0 no_plan }

-- The rules with these plans.
abbrev pub rules_with : List Plan → List Rule → List PlannedRule
rules_with plans rules = map (rule_with plans) (enumerate_from 0 rules)

-- What is evaluated of a Route, out of what is kept of it.
abbrev pub candidate_with : Door → KeptRoute → Candidate
candidate_with door k = record {
  route = k.route;
  places = flat_map (places_at door.gateway) k.attached;
  rules = rules_with k.plans k.route.object.rules;
}

-- The Routes that are attached to the Gateway.
unfoldable pub candidates_of : List ℕ → World → Door → List Candidate
candidates_of controller w door = filter has_places (map (candidate_of controller w door) w.routes)

-- The rows of one of its rules.
abbrev pub planned_rows : ServedListener → Stored HttpRoute → RouteHostname → PlannedRule → List Row
planned_rows l s h rule = map (row_of l s h rule.number rule.plan) (enumerate_from 0 rule.rule.matches)

-- Its rows for one of its hostnames.
abbrev pub planned_hostname_rows : ServedListener → Candidate → RouteHostname → List Row
planned_hostname_rows l c h = flat_map (planned_rows l c.route h) c.rules

-- Its rows at a listener, where it is attached to it.
abbrev pub candidate_rows : ServedListener → Candidate → List Row
candidate_rows l c =
    if list_any (nat_eq l.number) c.places then flat_map (planned_hostname_rows l c) (hostnames_for l.hostname c.route.object.hostnames)
    else []

-- The rows of a Route at a listener of the door, out of what is kept of it.
abbrev pub kept_rows : Door → ServedListener → KeptRoute → List Row
kept_rows door l k = candidate_rows l (candidate_with door k)
