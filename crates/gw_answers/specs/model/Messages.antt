-- What the filters of a rule and of a backendRef make of the messages to and from a backend. Source: HTTPRouteFilter of the Gateway API
-- reference, RFC 9110 section 7.6.
use Rattle.std.specs.Prelude.{ℕ, List, [], ◌∷◌, ◌++◌, codes, Bool, Option, Some, None, Result, Ok, Err, bytes_eq, fold, option_map, option_to_list, slice_get, unwrap_or}
use Rattle.std.specs.List.{filter_map}
use Rattle.gw_filters.specs.model.Editing.{edited}
use Rattle.gw_filters.specs.model.Locations.{host_of, target_of}
use Rattle.gw_frames.specs.model.Requests.{Request}
use Rattle.gw_replies.specs.declared.fault.BackendFault.{BackendFault}
use Rattle.gw_replies.specs.declared.fault.FaultName.TheVariants as faults
use Rattle.gw_replies.specs.model.Hops.{passed_back, passed_on}
use Rattle.gw_replies.specs.model.Responses.{Response}
use Rattle.gw_replies.specs.model.Written.{forward, own, reply}
use Rattle.gw_text.specs.model.Fields.{Field}
use Rattle.gw_text.specs.model.Filters.{Edits, Filter, Rewrite, request_header_modifier, response_header_modifier, request_redirect, url_rewrite, another_filter}
use Rattle.gw_text.specs.model.Matches.{PathMatch}
use Rattle.gw_text.specs.model.Plans.{Backend, Plan, request_edits_in, response_edits_in}
use Rattle.gw_text.specs.model.References.{first_of}

-- The rewrite that a filter is, if it is one. Source: HTTPRouteFilter, urlRewrite.
abbrev pub rewrite_by : Filter → Option Rewrite
rewrite_by (request_header_modifier e) = None
rewrite_by (response_header_modifier e) = None
rewrite_by (request_redirect r) = None
rewrite_by (url_rewrite w) = Some w
rewrite_by (another_filter name) = None

-- The rule's rewrite; no listener serves a Route with two of one type in a rule.
abbrev pub rewrite_in : Plan → Option Rewrite
rewrite_in plan = first_of (filter_map rewrite_by plan.filters)

-- A rewrite of nothing.
abbrev pub nothing_rewritten : Rewrite
nothing_rewritten = record { hostname = None; path = None }

-- The fields after each of these edits, one after the other.
abbrev pub edited_by : List Edits → List Field → List Field
edited_by edits fields = fold (λ edited_before e. edited e edited_before) fields edits

-- What is done to the request: the edits of the rule, and then those of the backendRef that was drawn.
abbrev pub request_edits_of : Plan → Backend → List Edits
request_edits_of plan b = option_to_list (request_edits_in plan.filters) ++ b.request ∷ []

-- What is done to the response.
abbrev pub response_edits_of : Plan → Backend → List Edits
response_edits_of plan b = option_to_list (response_edits_in plan.filters) ++ b.response ∷ []

-- The same by the place of that backendRef in the rule.
abbrev pub response_edits_at : Plan → ℕ → List Edits
response_edits_at plan place =
    option_to_list (response_edits_in plan.filters) ++ option_to_list (option_map (λ b. b.response) (slice_get plan.backends place))

-- The request as the backend that was drawn is sent it: with the target and the host after the rule's rewrite, and with the fields that
-- are passed on after the edits.
unfoldable pub forward_of : Plan → Backend → PathMatch → Request → List ℕ
forward_of plan b m q =
    let w = unwrap_or (rewrite_in plan) nothing_rewritten in
    forward q.method (target_of w m q) (host_of w q) q.minor (edited_by (request_edits_of plan b) (passed_on q.fields)) q.body q.framed

-- The request's method is HEAD, to which a reply has no body. Source: RFC 9110 section 9.3.2.
abbrev pub is_head : Request → Bool
is_head q = bytes_eq q.method (codes "HEAD")

-- The response with the fields that are passed back, after the edits.
abbrev pub edited_response : List Edits → Response → Response
edited_response edits r = record r { fields = edited_by edits (passed_back r.fields) }

-- The reply to a client for what a backend answered, whose responses have these edits. The last one of a connection says so.
unfoldable pub reply_of : List Edits → Result Response BackendFault → Bool → Bool → List ℕ
reply_of edits (Ok r) to_head last = reply (edited_response edits r) to_head last
reply_of edits (Err fault) to_head last = own 502 None (Some (faults.Backend fault)) last
