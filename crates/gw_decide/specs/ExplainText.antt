-- What `gateward explain` writes of a request, as JSON with the keys of each object in byte order.
use Rattle.std.specs.Prelude.{ℕ, List, ◌++◌, codes, map, flat_map, Option, Some, None, unwrap_or}
use Rattle.serde_json.specs.Data.{Data, number, unsigned, string, array, object, member, no_members, Members, put}
use Rattle.serde_json.specs.View.{items_of}
use Rattle.gw_decide.specs.declared.why.Why.{Why}
use Rattle.gw_decide.specs.declared.why.Why.TheVariants.{OtherListener, Hostname, Path, Method, Headers, Query, Preceded, Chosen}
use Rattle.gw_decide.specs.model.Reasons.{explained_of}
use Rattle.gw_decide.specs.model.Verdicts.{Verdict, not_found, redirect, nothing, choose, redirect_in, verdict_of}
use Rattle.gw_filters.specs.model.Locations.{location_of}
use Rattle.gw_frames.specs.model.Requests.{Request}
use Rattle.gw_json.specs.Lines.{line_of}
use Rattle.gw_match.specs.model.Choice.{listener_at}
use Rattle.gw_rows.specs.model.Rows.{Row, Rows, ServedListener}
use Rattle.gw_text.specs.model.Filters.{Redirect}
use Rattle.gw_text.specs.model.Forms.{printed}
use Rattle.gw_text.specs.model.Names.{Key, joined}
use Rattle.gw_text.specs.model.Plans.{Backend}
use Rattle.gw_text.specs.model.References.{BackendState, invalid_kind, not_permitted, not_found as no_service, bad_protocol, no_endpoints, ready}

-- The name of a verdict.
abbrev pub verdict_text : Verdict → List ℕ
verdict_text not_found = codes "NotFound"
verdict_text (redirect row) = codes "Redirect"
verdict_text (nothing row) = codes "Nothing"
verdict_text (choose row) = codes "Choose"

-- The name of a backend's state.
abbrev pub state_text : BackendState → List ℕ
state_text invalid_kind = codes "InvalidKind"
state_text not_permitted = codes "NotPermitted"
state_text no_service = codes "NotFound"
state_text bad_protocol = codes "BadProtocol"
state_text no_endpoints = codes "NoEndpoints"
state_text (ready sockets) = codes "Ready"

-- The name of a reason.
abbrev pub why_text : Why → List ℕ
why_text OtherListener = codes "OtherListener"
why_text Hostname = codes "Hostname"
why_text Path = codes "Path"
why_text Method = codes "Method"
why_text Headers = codes "Headers"
why_text Query = codes "Query"
why_text Preceded = codes "Preceded"
why_text Chosen = codes "Chosen"

-- A backend: its state and its weight.
abbrev pub backend_data : Backend → Data
backend_data b =
    object (member (codes "state") (string (state_text b.state))
    (member (codes "weight") (number (unsigned b.weight)) no_members))

-- A list of backends.
abbrev pub backends_data : List Backend → Data
backends_data backends = array (items_of (map backend_data backends))

-- The members, with the Route of a row and the places of its rule and match.
abbrev pub with_row : Row → Members → Members
with_row row members =
    put (codes "match") (number (unsigned row.place))
    (put (codes "route") (string (printed (joined row.key)))
    (put (codes "rule") (number (unsigned row.rule)) members))

-- The members, with the status and the Location of a redirect; 302 where no status is given. Source: HTTPRequestRedirectFilter,
-- statusCode.
abbrev pub with_redirect : Option Redirect → Row → Request → Members → Members
with_redirect None row q members = members
with_redirect (Some r) row q members =
    put (codes "code") (number (unsigned (unwrap_or r.status_code 302)))
    (put (codes "location") (string (printed (location_of r row.test.path q row.port))) members)

-- The members, with what a verdict tells beside its name.
abbrev pub with_verdict : Verdict → Request → Members → Members
with_verdict not_found q members = members
with_verdict (redirect row) q members = with_redirect (redirect_in row.plan) row q (with_row row members)
with_verdict (nothing row) q members = with_row row members
with_verdict (choose row) q members = put (codes "backends") (backends_data row.plan.backends) (with_row row members)

-- The members, with the name of the listener that takes the request, if one does.
abbrev pub with_listener : Option ServedListener → Members → Members
with_listener None members = members
with_listener (Some l) members = put (codes "listener") (string (printed l.name)) members

-- A verdict on a request, with the listener that takes it, after so many changes.
unfoldable pub verdict_data : Verdict → Option ServedListener → Request → ℕ → Data
verdict_data verdict listener q front =
    object (with_verdict verdict q
    (with_listener listener
    (member (codes "front") (number (unsigned front))
    (member (codes "verdict") (string (verdict_text verdict)) no_members))))

-- A Route's reason.
abbrev pub reason_data : Key × Why → Data
reason_data e =
    object (member (codes "reason") (string (why_text e.1))
    (member (codes "route") (string (printed (joined e.0))) no_members))

-- A line for each Route.
abbrev pub reasons_text : List (Key × Why) → List ℕ
reasons_text explained = flat_map (λ e. line_of (reason_data e)) explained

-- The line of the verdict, and a line for each Route with rows at the door.
unfoldable pub explain_text : Rows → Request → ℕ → List ℕ
explain_text rows q front =
    line_of (verdict_data (verdict_of rows q) (listener_at rows.listeners q.host) q front) ++ reasons_text (explained_of rows q)
