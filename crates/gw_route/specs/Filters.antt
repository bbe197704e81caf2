-- The filters of a rule, or of a backendRef, line by line. Source: HTTPRouteFilter of the Gateway API reference.
use Rattle.std.specs.Prelude.{ℕ, List, codes, bytes_eq, if◌then◌else◌, Result, Ok}
use Rattle.gw_json.specs.declared.refusal.Refusal.{Refusal}
use Rattle.gw_json.specs.Words.{◌>>=◌}
use Rattle.gw_json.specs.Fields.{Node, number_of}
use Rattle.gw_json.specs.Presence.{needed, given, listed, port_of}
use Rattle.gw_forms.specs.Forms as forms
use Rattle.gw_text.specs.model.Fields.{Field}
use Rattle.gw_text.specs.model.Filters.{Edits, PathModifier, replace_full_path, replace_prefix_match, another_modifier, Redirect, Rewrite, Filter, request_header_modifier, response_header_modifier, request_redirect, url_rewrite, another_filter}
use Rattle.gw_route.specs.declared.field_names.TheConstants.{STATUS_CODE, REPLACE_FULL_PATH, REPLACE_PREFIX_MATCH, REQUEST_HEADER_MODIFIER, RESPONSE_HEADER_MODIFIER, REQUEST_REDIRECT, URL_REWRITE}

-- A field to set or to add. Source: HTTPHeader.
unfoldable pub edited_of : Node → Result Field Refusal
edited_of at = do
  name ← needed forms.token (codes "name") at
  value ← needed forms.field_value (codes "value") at
  Ok (record { name = name; value = value })

-- What is done to the fields of a message. Source: HTTPHeaderFilter.
unfoldable pub edits_of : Node → Result Edits Refusal
edits_of at = do
  set ← listed 16 edited_of (codes "set") at
  add ← listed 16 edited_of (codes "add") at
  remove ← listed 16 forms.token (codes "remove") at
  Ok (record { set = set; add = add; remove = remove })

-- Each type by the field that it reads; of another type nothing more is read.
unfoldable pub modifier_by : List ℕ → Node → Result PathModifier Refusal
modifier_by sort at =
    if bytes_eq sort (codes "ReplaceFullPath") then (needed forms.replacement REPLACE_FULL_PATH.now at >>= λ t. Ok (replace_full_path t))
    else (if bytes_eq sort (codes "ReplacePrefixMatch") then (needed forms.replacement REPLACE_PREFIX_MATCH.now at >>= λ t. Ok (replace_prefix_match t))
    else Ok (another_modifier sort))

-- What becomes of a path. Source: HTTPPathModifier.
unfoldable pub modifier_of : Node → Result PathModifier Refusal
modifier_of at = do
  sort ← needed forms.word (codes "type") at
  modifier_by sort at

-- The parts of a redirect. Source: HTTPRequestRedirectFilter.
unfoldable pub redirect_of : Node → Result Redirect Refusal
redirect_of at = do
  scheme ← given forms.word (codes "scheme") at
  hostname ← given forms.precise_hostname (codes "hostname") at
  path ← given modifier_of (codes "path") at
  port ← given port_of (codes "port") at
  status_code ← given (number_of 100 599) STATUS_CODE.now at
  Ok (record { scheme = scheme; hostname = hostname; path = path; port = port; status_code = status_code })

-- What is rewritten. Source: HTTPURLRewriteFilter.
unfoldable pub rewrite_of : Node → Result Rewrite Refusal
rewrite_of at = do
  hostname ← given forms.precise_hostname (codes "hostname") at
  path ← given modifier_of (codes "path") at
  Ok (record { hostname = hostname; path = path })

-- Each type by the field that it reads; of another type nothing more is read.
unfoldable pub filter_by : List ℕ → Node → Result Filter Refusal
filter_by sort at =
    if bytes_eq sort (codes "RequestHeaderModifier") then (needed edits_of REQUEST_HEADER_MODIFIER.now at >>= λ e. Ok (request_header_modifier e))
    else (if bytes_eq sort (codes "ResponseHeaderModifier") then (needed edits_of RESPONSE_HEADER_MODIFIER.now at >>= λ e. Ok (response_header_modifier e))
    else (if bytes_eq sort (codes "RequestRedirect") then (needed redirect_of REQUEST_REDIRECT.now at >>= λ r. Ok (request_redirect r))
    else (if bytes_eq sort (codes "URLRewrite") then (needed rewrite_of URL_REWRITE.now at >>= λ w. Ok (url_rewrite w))
    else Ok (another_filter sort))))

-- A filter.
unfoldable pub filter_of : Node → Result Filter Refusal
filter_of at = do
  sort ← needed forms.word (codes "type") at
  filter_by sort at
