-- What becomes of a request at a door. Source: HTTPRouteRule, HTTPRequestRedirectFilter and HTTPBackendRef of the Gateway API reference.
use Rattle.std.specs.Prelude.{Bool, ◌==◌, if◌then◌else◌, Option, Some, None, is_some}
use Rattle.std.specs.List.{filter_map, list_all}
use Rattle.std.specs.Option.{option_map_or}
use Rattle.gw_frames.specs.model.Requests.{Request}
use Rattle.gw_match.specs.model.Choice.{row_at}
use Rattle.gw_rows.specs.model.Rows.{Row, Rows}
use Rattle.gw_text.specs.model.Filters.{Filter, Redirect, request_header_modifier, response_header_modifier, request_redirect, url_rewrite, another_filter}
use Rattle.gw_text.specs.model.Plans.{Plan}
use Rattle.gw_text.specs.model.References.{first_of}

-- No row serves the request; or the row that does redirects it, sends it nowhere, or sends it to one of its backends.
pub data Verdict : Type 0 where
  not_found : Verdict
  redirect : Row → Verdict
  nothing : Row → Verdict
  choose : Row → Verdict

-- The redirect that a filter is, if it is one.
abbrev pub redirect_of : Filter → Option Redirect
redirect_of (request_header_modifier e) = None
redirect_of (response_header_modifier e) = None
redirect_of (request_redirect r) = Some r
redirect_of (url_rewrite w) = None
redirect_of (another_filter name) = None

-- The redirect of a rule, if it has one. Source: HTTPRouteFilter, requestRedirect.
abbrev pub redirect_in : Plan → Option Redirect
redirect_in plan = first_of (filter_map redirect_of plan.filters)

-- The rule has no backendRefs, or only such of weight 0: "If weight is set to 0, no traffic should be forwarded for this entry."
-- Source: HTTPBackendRef, weight.
abbrev pub sends_nothing : Plan → Bool
sends_nothing plan = list_all (λ b. b.weight == 0) plan.backends

-- What becomes of a request that this row serves.
abbrev pub verdict_by : Row → Verdict
verdict_by row =
    if is_some (redirect_in row.plan) then redirect row
    else (if sends_nothing row.plan then nothing row
    else choose row)

-- What becomes of a request.
unfoldable pub verdict_of : Rows → Request → Verdict
verdict_of rows q = option_map_or verdict_by (row_at rows q) not_found
