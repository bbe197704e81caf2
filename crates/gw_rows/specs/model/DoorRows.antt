-- The rows of a door in a world. Source: HTTPRouteSpec and HTTPRouteRule of the Gateway API reference.
use Rattle.std.specs.Prelude.{ℕ, List, [], ◌∷◌, Bool, true, ◌&&◌, ◌==◌, map, filter, flat_map, Option, Some, None, if◌then◌else◌}
use Rattle.std.specs.List.{enumerate_from}
use Rattle.std.specs.Option.{option_map_or}
use Rattle.gw_text.specs.model.Chains.{◌>>=◌}
use Rattle.gw_text.specs.model.Doors.{Door}
use Rattle.gw_text.specs.model.Gateways.{Listener, Gateway}
use Rattle.gw_text.specs.model.Hostnames.{Host, meets, same_host}
use Rattle.gw_text.specs.model.Listeners.{gateway_state, listener_state}
use Rattle.gw_text.specs.model.Matches.{Match}
use Rattle.gw_text.specs.model.Names.{Key}
use Rattle.gw_text.specs.model.Plans.{Plan, plan_of}
use Rattle.gw_text.specs.model.Routes.{Rule, HttpRoute}
use Rattle.gw_text.specs.model.Statuses.{entries_of, is_attached, where_managed}
use Rattle.gw_text.specs.model.Stored.{Stored, creation}
use Rattle.gw_text.specs.model.World.{World, gateway_at}
use Rattle.gw_rows.specs.model.Rows.{Row, Rows, ServedListener, first_of_each}

-- The Gateway of this key, where it is held and managed.
abbrev pub managed_at : List ℕ → World → Key → Option Gateway
managed_at controller w key = gateway_at w key >>= where_managed controller w

-- A listener at a place of a Gateway's list is served at a door where it has the door's port, and both it and the Gateway are
-- programmed. Source: ListenerConditionProgrammed and GatewayConditionProgrammed.
abbrev pub is_served : List Door → Door → Gateway → ℕ → Listener → Bool
is_served doors door g place l =
    (l.port == door.port) && (gateway_state doors g).programmed.truth && (listener_state doors g place l).programmed.truth

-- What requests see of the listener at a place.
abbrev pub served_listener : ℕ → Listener → ServedListener
served_listener place l = record { number = place; name = l.name; hostname = l.hostname; port = l.port }

-- The served listeners of a Gateway at a door, in list order.
unfoldable pub served_by : List Door → Door → Gateway → List ServedListener
served_by doors door g =
    map (λ p. served_listener p.0 p.1) (filter (λ p. is_served doors door g p.0 p.1) (enumerate_from 0 g.listeners))

-- The served listeners of a door; a Gateway that isn't held or isn't managed has none.
unfoldable pub served_at : List Door → List ℕ → World → Door → List ServedListener
served_at doors controller w door = option_map_or (served_by doors door) (managed_at controller w door.gateway) []

-- A hostname of a Route, with its place; none where the Route has no hostnames.
pub record RouteHostname : Type 0 where
  pub place : ℕ
  pub hostname : Option Host

-- A hostname at a place.
abbrev pub hostname_at : ℕ × Host → RouteHostname
hostname_at p = record { place = p.0; hostname = Some p.1 }

-- The hostname has names in common with the listener's; one without hostname takes requests for all.
abbrev pub meets_listener : Option Host → Host → Bool
meets_listener listener h = option_map_or (λ own. meets own h) listener true

-- The hostnames that have names in common with a listener's, each once, with its first place.
abbrev pub meeting_hostnames : Option Host → List Host → List RouteHostname
meeting_hostnames listener hosts =
    map hostname_at (first_of_each (λ a b. same_host a.1 b.1) (filter (λ p. meets_listener listener p.1) (enumerate_from 0 hosts)))

-- The hostnames of a Route for which a listener takes requests to it. A Route without hostnames takes requests for all that the
-- listener takes. Source: HTTPRouteSpec.hostnames.
unfoldable pub hostnames_for : Option Host → List Host → List RouteHostname
hostnames_for listener [] = record { place = 0; hostname = None } ∷ []
hostnames_for listener (h ∷ hosts) = meeting_hostnames listener (h ∷ hosts)

-- The row of a match, of the rule at this place that does this.
abbrev pub row_of : ServedListener → Stored HttpRoute → RouteHostname → ℕ → Plan → ℕ × Match → Row
row_of l s h rule plan m = record {
  listener = l.number;
  name = l.name;
  listener_host = l.hostname;
  port = l.port;
  hostname = h.hostname;
  host_place = h.place;
  key = s.object.meta.key;
  created = creation s.object.meta s.first;
  rule = rule;
  place = m.0;
  test = m.1;
  plan = plan;
}

-- The rows of a rule.
abbrev pub rule_rows : World → ServedListener → Stored HttpRoute → RouteHostname → ℕ × Rule → List Row
rule_rows w l s h rule = map (row_of l s h rule.0 (plan_of w s.object.meta.key.namespace rule.1)) (enumerate_from 0 rule.1.matches)

-- The rows of a Route for one of its hostnames.
abbrev pub hostname_rows : World → ServedListener → Stored HttpRoute → RouteHostname → List Row
hostname_rows w l s h = flat_map (rule_rows w l s h) (enumerate_from 0 s.object.rules)

-- The rows of a Route at a listener.
abbrev pub route_rows : World → ServedListener → Stored HttpRoute → List Row
route_rows w l s = flat_map (hostname_rows w l s) (hostnames_for l.hostname s.object.hostnames)

-- The rows of a Route at a listener of the door's Gateway: none where no entry attaches it to that.
abbrev pub attached_rows : List ℕ → World → Door → ServedListener → Stored HttpRoute → List Row
attached_rows controller w door l s =
    if is_attached door.gateway l.number (entries_of controller w s.object) then route_rows w l s else []

-- The Routes that some entry attaches to the listener, in key order.
abbrev pub attached_routes : List ℕ → World → Door → ServedListener → List (Stored HttpRoute)
attached_routes controller w door l =
    filter (λ s. is_attached door.gateway l.number (entries_of controller w s.object)) w.routes

-- The rows of a listener.
abbrev pub listener_rows : List ℕ → World → Door → ServedListener → List Row
listener_rows controller w door l = flat_map (route_rows w l) (attached_routes controller w door l)

-- The served listeners of a door and their rows: ordered by listener, Route, hostname, rule and match.
unfoldable pub rows_of : List Door → List ℕ → World → Door → Rows
rows_of doors controller w door = record {
  listeners = served_at doors controller w door;
  rows = flat_map (listener_rows controller w door) (served_at doors controller w door);
}
