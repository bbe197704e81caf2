-- What the rules of a Route do with the requests that come to them. Source: HTTPRouteRule of the Gateway API reference, filters and
-- backendRefs.
use Rattle.std.specs.Prelude.{ℕ, List, map, Option, unwrap_or}
use Rattle.std.specs.List.{filter_map}
use Rattle.gw_text.specs.model.Filters.{Edits, Filter, no_edits, request_edits, response_edits}
use Rattle.gw_text.specs.model.Names.{Key}
use Rattle.gw_text.specs.model.References.{BackendState, backend_state_in, first_of}
use Rattle.gw_text.specs.model.Routes.{BackendRef, Rule, HttpRoute, backend_key}
use Rattle.gw_text.specs.model.World.{World}

-- A backendRef: its share of the rule's requests, what it names, what becomes of it, and how its requests and their responses are
-- edited.
pub record Backend : Type 0 where
  pub weight : ℕ
  pub key : Key
  -- 0 where it names none, which a reference to a Service never does
  pub port : ℕ
  pub state : BackendState
  pub request : Edits
  pub response : Edits

-- A rule: what is done to its requests and replies, and where the requests go.
pub record Plan : Type 0 where
  pub filters : List Filter
  pub backends : List Backend

-- The edits of requests among the filters of a rule, or of a backendRef; no listener serves a Route with two of one type there.
abbrev pub request_edits_in : List Filter → Option Edits
request_edits_in filters = first_of (filter_map request_edits filters)

-- The edits of responses.
abbrev pub response_edits_in : List Filter → Option Edits
response_edits_in filters = first_of (filter_map response_edits filters)

-- A backendRef of a Route of this namespace.
abbrev pub backend_of : World → List ℕ → BackendRef → Backend
backend_of w namespace b = record {
  weight = b.weight;
  key = backend_key b;
  port = unwrap_or b.port 0;
  state = backend_state_in w namespace b;
  request = unwrap_or (request_edits_in b.filters) no_edits;
  response = unwrap_or (response_edits_in b.filters) no_edits;
}

-- A rule of a Route of this namespace.
abbrev pub plan_of : World → List ℕ → Rule → Plan
plan_of w namespace rule = record { filters = rule.filters; backends = map (backend_of w namespace) rule.backend_refs }

-- The rules of a Route, in list order.
abbrev pub plans_of : World → HttpRoute → List Plan
plans_of w r = map (plan_of w r.meta.key.namespace) r.rules
