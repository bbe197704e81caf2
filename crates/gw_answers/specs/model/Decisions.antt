-- What is done about a whole request: by which row, by which backend, and with which reply or forwarded request.
use Rattle.std.specs.Prelude.{ℕ, List, map, length, replicate, slice_get, Option, Some, None, option_map, unwrap_or}
use Rattle.std.specs.Option.{option_map_or}
use Rattle.gw_answers.specs.declared.books.Books.{Books}
use Rattle.gw_answers.specs.model.Messages.{forward_of, response_edits_of}
use Rattle.gw_decide.specs.model.Verdicts.{Verdict, not_found, redirect, nothing, choose, redirect_in, verdict_of}
use Rattle.gw_filters.specs.model.Locations.{location_of}
use Rattle.gw_frames.specs.model.Requests.{Request}
use Rattle.gw_match.specs.model.Choice.{listener_at}
use Rattle.gw_replies.specs.declared.fault.FaultName.{FaultName}
use Rattle.gw_replies.specs.declared.fault.FaultName.TheVariants.{NoBackend, InvalidKind, RefNotPermitted, BackendNotFound, UnsupportedProtocol, NoEndpoints}
use Rattle.gw_rows.specs.model.Rows.{Row, Rows}
use Rattle.gw_text.specs.model.Addresses.{Socket}
use Rattle.gw_text.specs.model.Filters.{Edits, Redirect}
use Rattle.gw_text.specs.model.Names.{Key}
use Rattle.gw_text.specs.model.Picks.{Choice, after_draw, drawn_from}
use Rattle.gw_text.specs.model.Plans.{Backend}
use Rattle.gw_text.specs.model.References.{BackendState, invalid_kind, not_permitted, not_found as no_service, bad_protocol, no_endpoints, ready}

-- A Service and a port of it; the port is 0 where none is given.
pub record BackendKey : Type 0 where
  pub key : Key
  pub port : ℕ

-- What was chosen for a request: the name of the listener; the Route, the rule and the match of the row; the backend; its endpoint.
pub record Chosen : Type 0 where
  pub listener : Option (List ℕ)
  pub route : Option Key
  -- both 0 where there is no Route
  pub rule : ℕ
  pub place : ℕ
  pub backend : Option BackendKey
  pub endpoint : Option Socket

-- What is done: a reply of this program's own, with its code, Location and fault; or the request is sent to an endpoint, and the
-- response comes back after these edits.
pub data Action : Type 0 where
  replies : ℕ → Option (List ℕ) → Option FaultName → Action
  forwards : Socket → List ℕ → List Edits → Action

pub record Decision : Type 0 where
  pub chosen : Chosen
  pub action : Action

-- What backends of a rule are picked by: the Route, the rule's place in it, and the weights. Source: HTTPBackendRef, weight.
abbrev pub backend_choice : Row → Choice
backend_choice row = record { name = row.key; number = row.rule; weights = map (λ b. b.weight) row.plan.backends }

-- What endpoints of a Service's port are picked by: each has the same weight.
abbrev pub endpoint_choice : Backend → List Socket → Choice
endpoint_choice b sockets = record { name = b.key; number = b.port; weights = replicate (length sockets) 1 }

-- The item at a place, if there is one.
abbrev pub item_at : {T : Type 0} → List T → Option ℕ → Option T
item_at items None = None
item_at items (Some place) = slice_get items place

-- The backend that is next.
abbrev pub picked_backend : Row → Books → Option Backend
picked_backend row books = item_at row.plan.backends (drawn_from (backend_choice row) books.backends)

-- The endpoint that is next.
abbrev pub picked_endpoint : Backend → List Socket → Books → Option Socket
picked_endpoint b sockets books = item_at sockets (drawn_from (endpoint_choice b sockets) books.endpoints)

-- No Route.
abbrev pub unrouted : Option (List ℕ) → Chosen
unrouted listener = record { listener = listener; route = None; rule = 0; place = 0; backend = None; endpoint = None }

-- A row's Route, rule and match.
abbrev pub routed : Option (List ℕ) → Row → Chosen
routed listener row =
    record { listener = listener; route = Some row.key; rule = row.rule; place = row.place; backend = None; endpoint = None }

-- A reply of this program's own.
abbrev pub replied : Chosen → ℕ → Option FaultName → Decision
replied chosen code fault = record { chosen = chosen; action = replies code None fault }

-- The code of a redirect: 302 where none is given. Source: HTTPRequestRedirectFilter, statusCode.
abbrev pub redirect_code : Redirect → ℕ
redirect_code r = unwrap_or r.status_code 302

-- A redirect. The port is the listener's.
abbrev pub redirected : Chosen → Row → Request → Redirect → Decision
redirected chosen row q r =
    record { chosen = chosen; action = replies (redirect_code r) (Some (location_of r row.test.path q row.port)) None }

-- The request is sent to an endpoint of the backend.
abbrev pub by_endpoint : Chosen → Row → Request → Backend → Option Socket → Decision
by_endpoint chosen row q b None = replied chosen 503 (Some NoEndpoints)
by_endpoint chosen row q b (Some to) = record {
  chosen = record chosen { endpoint = Some to };
  action = forwards to (forward_of row.plan b row.test.path q) (response_edits_of row.plan b);
}

-- What the state of a backend comes to. Source: BackendRef ("If the specified backend does not exist or is not valid, a 500 status
-- code is returned") and HTTPBackendRef; 503 for a Service without ready endpoints.
abbrev pub by_state : Chosen → Row → Request → Books → Backend → BackendState → Decision
by_state chosen row q books b invalid_kind = replied chosen 500 (Some InvalidKind)
by_state chosen row q books b not_permitted = replied chosen 500 (Some RefNotPermitted)
by_state chosen row q books b no_service = replied chosen 500 (Some BackendNotFound)
by_state chosen row q books b bad_protocol = replied chosen 500 (Some UnsupportedProtocol)
by_state chosen row q books b no_endpoints = replied chosen 503 (Some NoEndpoints)
by_state chosen row q books b (ready sockets) = by_endpoint chosen row q b (picked_endpoint b sockets books)

-- The request goes to the picked backend.
abbrev pub by_backend : Chosen → Row → Request → Books → Option Backend → Decision
by_backend chosen row q books None = replied chosen 500 (Some NoBackend)
by_backend chosen row q books (Some b) =
    by_state (record chosen { backend = Some (record { key = b.key; port = b.port }) }) row q books b b.state

-- What a verdict comes to. Source: HTTPRouteRule, backendRefs, and HTTPRequestRedirectFilter.
abbrev pub by_verdict : Option (List ℕ) → Request → Books → Verdict → Decision
by_verdict listener q books not_found = replied (unrouted listener) 404 None
by_verdict listener q books (redirect row) =
    option_map_or (redirected (routed listener row) row q) (redirect_in row.plan) (replied (routed listener row) 500 (Some NoBackend))
by_verdict listener q books (nothing row) = replied (routed listener row) 500 (Some NoBackend)
by_verdict listener q books (choose row) = by_backend (routed listener row) row q books (picked_backend row books)

-- What is done about a request at a door with these rows.
unfoldable pub decision_of : Rows → Request → Books → Decision
decision_of rows q books =
    by_verdict (option_map (λ l. l.name) (listener_at rows.listeners q.host)) q books (verdict_of rows q)

-- The books after the pick of an endpoint.
abbrev pub after_endpoint : Books → Backend → BackendState → Books
after_endpoint books b invalid_kind = books
after_endpoint books b not_permitted = books
after_endpoint books b no_service = books
after_endpoint books b bad_protocol = books
after_endpoint books b no_endpoints = books
after_endpoint books b (ready sockets) =
    record books { endpoints = after_draw (endpoint_choice b sockets) books.endpoints }

-- The books after the pick of a backend, and of its endpoint where it has some.
abbrev pub after_backend : Books → Option Backend → Books
after_backend books None = books
after_backend books (Some b) = after_endpoint books b b.state

-- Only what goes to a backend is counted.
abbrev pub after_verdict : Books → Verdict → Books
after_verdict books not_found = books
after_verdict books (redirect row) = books
after_verdict books (nothing row) = books
after_verdict books (choose row) =
    after_backend (record books { backends = after_draw (backend_choice row) books.backends }) (picked_backend row books)

-- The books after a request at a door with these rows.
unfoldable pub books_after : Rows → Request → Books → Books
books_after rows q books = after_verdict books (verdict_of rows q)
