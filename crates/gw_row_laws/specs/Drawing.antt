-- What is drawn for a request, and what is done about it by that.
use Rattle.std.specs.Prelude.{◌≡◌, ◌<◌, ◌↔◌, ℕ, true, List, length, All, Contains, Option, Some, None, option_map}
use Rattle.gw_answers.specs.declared.books.Books.{Books}
use Rattle.gw_answers.specs.model.Decisions.{Action, replies, forwards, decision_of, picked_backend}
use Rattle.gw_decide.specs.model.Verdicts.{Verdict, not_found, redirect, nothing, choose, sends_nothing, verdict_of}
use Rattle.gw_frames.specs.model.Requests.{Request}
use Rattle.gw_replies.specs.declared.fault.FaultName.{FaultName}
use Rattle.gw_replies.specs.declared.fault.FaultName.TheVariants.{NoBackend, InvalidKind, RefNotPermitted, BackendNotFound, UnsupportedProtocol, NoEndpoints}
use Rattle.gw_rows.specs.model.Rows.{Row, Rows}
use Rattle.gw_text.specs.model.Addresses.{Socket}
use Rattle.gw_text.specs.model.Filters.{Edits}
use Rattle.gw_text.specs.model.Plans.{Backend}
use Rattle.gw_text.specs.model.References.{BackendState, invalid_kind, not_permitted, not_found as no_service, bad_protocol, no_endpoints, ready}

-- A backend that is ready has a socket.
abbrev pub HasSocketsIfReady : Backend → Type 0
HasSocketsIfReady b = (sockets : List Socket) → b.state ≡ ready sockets → 0 < length sockets

-- Every backend that is ready has a socket, in every row.
abbrev pub ReadyHaveSockets : Rows → Type 0
ReadyHaveSockets rows = All (λ row. All HasSocketsIfReady row.plan.backends) rows.rows

-- The backend that is drawn where a verdict chooses.
abbrev pub drawn_by : Verdict → Books → Option Backend
drawn_by not_found books = None
drawn_by (redirect row) books = None
drawn_by (nothing row) books = None
drawn_by (choose row) books = picked_backend row books

-- The state of the backend that is drawn for a request, if one is drawn.
abbrev pub state_drawn : Rows → Request → Books → Option BackendState
state_drawn rows q books = option_map (λ b. b.state) (drawn_by (verdict_of rows q) books)

-- What is done about a request.
abbrev pub action_of : Rows → Request → Books → Action
action_of rows q books = (decision_of rows q books).action

-- The request is sent to one of these sockets, and not answered here.
abbrev pub IsSentTo : List Socket → Action → Type 0
IsSentTo sockets action = (to : Socket) × (bytes : List ℕ) × (edits : List Edits) × Contains sockets to × (action ≡ forwards to bytes edits)

-- The client is sent elsewhere, and no fault is named.
abbrev pub IsRedirected : Action → Type 0
IsRedirected action = (code : ℕ) × (location : List ℕ) × (action ≡ replies code (Some location) None)

-- What is done where a backend of this state is drawn: 500 for one that can't be a backend, 503 for one without ready endpoints, and
-- else the request is sent to one of the endpoints.
abbrev pub IsByState : BackendState → Action → Type 0
IsByState invalid_kind action = action ≡ replies 500 None (Some InvalidKind)
IsByState not_permitted action = action ≡ replies 500 None (Some RefNotPermitted)
IsByState no_service action = action ≡ replies 500 None (Some BackendNotFound)
IsByState bad_protocol action = action ≡ replies 500 None (Some UnsupportedProtocol)
IsByState no_endpoints action = action ≡ replies 503 None (Some NoEndpoints)
IsByState (ready sockets) action = IsSentTo sockets action

-- What is done by a verdict: 404 without a row, a redirect, 500 where nothing is sent, and else what the drawn backend's state asks.
abbrev pub IsByVerdict : Verdict → Books → Action → Type 0
IsByVerdict not_found books action = action ≡ replies 404 None None
IsByVerdict (redirect row) books action = IsRedirected action
IsByVerdict (nothing row) books action = action ≡ replies 500 None (Some NoBackend)
IsByVerdict (choose row) books action = (b : Backend) × (picked_backend row books ≡ Some b) × Contains row.plan.backends b × IsByState b.state action

-- What is done about each request, whatever was drawn before it.
abbrev pub GoesByTheBackendDrawn : Rows → Type 0
GoesByTheBackendDrawn rows = (q : Request) (books : Books) → IsByVerdict (verdict_of rows q) books (action_of rows q books)

-- The fault that a reply of this program's own names.
abbrev pub fault_of : Action → Option FaultName
fault_of (replies code location fault) = fault
fault_of (forwards to bytes edits) = None

-- The row that serves a request doesn't redirect it and sends it nowhere: its rule has no backendRefs, or only such of weight 0.
abbrev pub IsSentNowhere : Rows → Request → Type 0
IsSentNowhere rows q = (row : Row) × (verdict_of rows q ≡ nothing row) × (sends_nothing row.plan ≡ true)

-- NoEndpoints is the fault exactly where the backend that is drawn has no ready endpoint.
abbrev pub NamesNoEndpoints : Rows → Type 0
NamesNoEndpoints rows = (q : Request) (books : Books) → (fault_of (action_of rows q books) ≡ Some NoEndpoints) ↔ (state_drawn rows q books ≡ Some no_endpoints)

-- NoBackend is the fault exactly where the request is sent nowhere.
abbrev pub NamesNoBackend : Rows → Type 0
NamesNoBackend rows = (q : Request) (books : Books) → (fault_of (action_of rows q books) ≡ Some NoBackend) ↔ IsSentNowhere rows q
