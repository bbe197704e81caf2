-- What an HTTPRoute asks that isn't supported, and what it asks that can't be together. Source: HTTPRouteRule, HTTPRouteMatch and
-- HTTPRouteFilter of the Gateway API reference, and their conditions UnsupportedValue and IncompatibleFilters.
use Rattle.std.specs.Prelude.{ℕ, List, [], ◌∷◌, codes, Bool, true, false, not, ◌&&◌, ◌||◌, ◌==◌, bytes_eq, if◌then◌else◌, Option, Some, None, nat_lt, nat_le, length}
use Rattle.std.specs.List.{count_by, list_all, list_any}
use Rattle.std.specs.Option.{option_map_or}
use Rattle.gw_text.specs.declared.condition.Reason.{Reason}
use Rattle.gw_text.specs.declared.condition.Reason.TheVariants as reasons
use Rattle.gw_text.specs.declared.types.PathMatchType.{PathMatchType}
use Rattle.gw_text.specs.declared.types.PathMatchType.TheVariants as path_types
use Rattle.gw_text.specs.declared.types.ValueMatchType.{ValueMatchType}
use Rattle.gw_text.specs.declared.types.ValueMatchType.TheVariants as value_types
use Rattle.gw_text.specs.model.Fields.{same_field_name}
use Rattle.gw_text.specs.model.Filters.{Edits, PathModifier, replace_full_path, replace_prefix_match, another_modifier, Redirect, Filter, request_header_modifier, response_header_modifier, request_redirect, url_rewrite, another_filter}
use Rattle.gw_text.specs.model.Matches.{Match}
use Rattle.gw_text.specs.model.Routes.{BackendRef, Rule, HttpRoute}

-- Exact and PathPrefix are supported. Source: PathMatchType.
abbrev pub is_other_path_type : PathMatchType → Bool
is_other_path_type path_types.Exact = false
is_other_path_type path_types.PathPrefix = false
is_other_path_type (path_types.Other name) = true

-- Exact alone is supported. Source: HeaderMatchType and QueryParamMatchType.
abbrev pub is_other_value_type : ValueMatchType → Bool
is_other_value_type value_types.Exact = false
is_other_value_type (value_types.Other name) = true

-- The text is one of these.
abbrev pub is_one_of : List (List ℕ) → List ℕ → Bool
is_one_of texts text = list_any (bytes_eq text) texts

-- The methods that are supported. Source: HTTPMethod.
abbrev pub methods : List (List ℕ)
methods =
    codes "GET" ∷ codes "HEAD" ∷ codes "POST" ∷ codes "PUT" ∷ codes "DELETE" ∷ codes "CONNECT" ∷ codes "OPTIONS" ∷ codes "TRACE"
    ∷ codes "PATCH" ∷ []

-- A method that isn't supported.
abbrev pub is_other_method : List ℕ → Bool
is_other_method method = not (is_one_of methods method)

-- A match with a part that isn't supported.
abbrev pub is_unsupported_match : Match → Bool
is_unsupported_match m =
    is_other_path_type m.path.sort
    || list_any (λ h. is_other_value_type h.sort) m.headers
    || list_any (λ q. is_other_value_type q.sort) m.query_params
    || option_map_or is_other_method m.method false

-- The fields that a filter may not edit: those by which messages are framed and connections kept. Source: RFC 9110 section 7.6.1
-- and RFC 9112 section 6; that Host is among them is this project's choice.
abbrev pub kept_fields : List (List ℕ)
kept_fields =
    codes "host" ∷ codes "connection" ∷ codes "content-length" ∷ codes "transfer-encoding" ∷ codes "keep-alive"
    ∷ codes "proxy-connection" ∷ codes "te" ∷ codes "trailer" ∷ codes "upgrade" ∷ []

-- A field of this name may not be edited.
abbrev pub is_kept_field : List ℕ → Bool
is_kept_field name = list_any (same_field_name name) kept_fields

-- Edits of a field that may not be edited.
abbrev pub is_unsupported_edit : Edits → Bool
is_unsupported_edit e =
    list_any (λ f. is_kept_field f.name) e.set
    || list_any (λ f. is_kept_field f.name) e.add
    || list_any is_kept_field e.remove

-- ReplaceFullPath and ReplacePrefixMatch are supported. Source: HTTPPathModifierType.
abbrev pub is_other_modifier : PathModifier → Bool
is_other_modifier (replace_full_path path) = false
is_other_modifier (replace_prefix_match path) = false
is_other_modifier (another_modifier name) = true

-- The schemes that a redirect may name. Source: HTTPRequestRedirectFilter, scheme.
abbrev pub schemes : List (List ℕ)
schemes = codes "http" ∷ codes "https" ∷ []

-- A scheme that a redirect may not name.
abbrev pub is_other_scheme : List ℕ → Bool
is_other_scheme scheme = not (is_one_of schemes scheme)

-- A redirect may name the codes 301, 302, 303, 307 and 308. Source: HTTPRequestRedirectFilter, statusCode.
abbrev pub is_other_code : ℕ → Bool
is_other_code code = not (code == 301 || code == 302 || code == 303 || code == 307 || code == 308)

-- A redirect with a part that isn't supported.
abbrev pub is_unsupported_redirect : Redirect → Bool
is_unsupported_redirect r =
    option_map_or is_other_scheme r.scheme false
    || option_map_or is_other_modifier r.path false
    || option_map_or is_other_code r.status_code false

-- A filter that isn't supported, or has a part that isn't.
abbrev pub is_unsupported_filter : Filter → Bool
is_unsupported_filter (request_header_modifier e) = is_unsupported_edit e
is_unsupported_filter (response_header_modifier e) = is_unsupported_edit e
is_unsupported_filter (request_redirect r) = is_unsupported_redirect r
is_unsupported_filter (url_rewrite w) = option_map_or is_other_modifier w.path false
is_unsupported_filter (another_filter name) = true

-- A filter of a backendRef that isn't supported: one that doesn't edit fields, or edits one that may not be edited.
-- Source: HTTPBackendRef, filters.
abbrev pub is_unsupported_backend_filter : Filter → Bool
is_unsupported_backend_filter (request_header_modifier e) = is_unsupported_edit e
is_unsupported_backend_filter (response_header_modifier e) = is_unsupported_edit e
is_unsupported_backend_filter (request_redirect r) = true
is_unsupported_backend_filter (url_rewrite w) = true
is_unsupported_backend_filter (another_filter name) = true

-- A backendRef with a filter that isn't supported.
abbrev pub is_unsupported_backend : BackendRef → Bool
is_unsupported_backend b = list_any is_unsupported_backend_filter b.filters

-- A rule with a part that isn't supported.
unfoldable pub is_unsupported_rule : Rule → Bool
is_unsupported_rule r =
    list_any is_unsupported_match r.matches
    || list_any is_unsupported_filter r.filters
    || list_any is_unsupported_backend r.backend_refs
    || r.timeouts

-- A filter that edits fields of requests. Source: RequestHeaderModifier of HTTPRouteFilterType.
abbrev pub is_request_edit : Filter → Bool
is_request_edit (request_header_modifier e) = true
is_request_edit (response_header_modifier e) = false
is_request_edit (request_redirect r) = false
is_request_edit (url_rewrite w) = false
is_request_edit (another_filter name) = false

-- A filter that edits fields of replies. Source: ResponseHeaderModifier of HTTPRouteFilterType.
abbrev pub is_response_edit : Filter → Bool
is_response_edit (request_header_modifier e) = false
is_response_edit (response_header_modifier e) = true
is_response_edit (request_redirect r) = false
is_response_edit (url_rewrite w) = false
is_response_edit (another_filter name) = false

-- A filter that answers with a redirect. Source: RequestRedirect of HTTPRouteFilterType.
abbrev pub is_redirect : Filter → Bool
is_redirect (request_header_modifier e) = false
is_redirect (response_header_modifier e) = false
is_redirect (request_redirect r) = true
is_redirect (url_rewrite w) = false
is_redirect (another_filter name) = false

-- A filter that rewrites the target of requests. Source: URLRewrite of HTTPRouteFilterType.
abbrev pub is_rewrite : Filter → Bool
is_rewrite (request_header_modifier e) = false
is_rewrite (response_header_modifier e) = false
is_rewrite (request_redirect r) = false
is_rewrite (url_rewrite w) = true
is_rewrite (another_filter name) = false

-- Some two are of this type.
abbrev pub is_repeated : (Filter → Bool) → List Filter → Bool
is_repeated is_of_type filters = nat_lt 1 (count_by is_of_type filters)

-- ReplacePrefixMatch. Source: HTTPPathModifierType.
abbrev pub is_prefix_modifier : PathModifier → Bool
is_prefix_modifier (replace_full_path path) = false
is_prefix_modifier (replace_prefix_match path) = true
is_prefix_modifier (another_modifier name) = false

-- A redirect or a rewrite that replaces the prefix which a match names.
abbrev pub replaces_prefix : Filter → Bool
replaces_prefix (request_header_modifier e) = false
replaces_prefix (response_header_modifier e) = false
replaces_prefix (request_redirect r) = option_map_or is_prefix_modifier r.path false
replaces_prefix (url_rewrite w) = option_map_or is_prefix_modifier w.path false
replaces_prefix (another_filter name) = false

-- A match of a prefix of the path. Source: PathMatchType.
abbrev pub is_prefix_type : PathMatchType → Bool
is_prefix_type path_types.Exact = false
is_prefix_type path_types.PathPrefix = true
is_prefix_type (path_types.Other name) = false

-- The one match that there is, if any, is of a prefix of the path.
abbrev pub has_one_prefix : List Match → Bool
has_one_prefix matches = nat_le (length matches) 1 && list_all (λ m. is_prefix_type m.path.sort) matches

-- A type of filter is there twice. Source: HTTPRouteRule, filters, and HTTPBackendRef, filters.
abbrev pub has_repeated_type : List Filter → Bool
has_repeated_type filters =
    is_repeated is_request_edit filters
    || is_repeated is_response_edit filters
    || is_repeated is_redirect filters
    || is_repeated is_rewrite filters

-- Filters that can't be together: two of one type in the rule; a redirect beside a rewrite, or beside backendRefs; the replacement of
-- a prefix where the rule's matches don't name one prefix; two of one type in a backendRef. A rule and its backendRef may have
-- filters of one type. Source: HTTPRouteRule.filters, HTTPBackendRef.filters, HTTPURLRewriteFilter and HTTPPathModifier.
unfoldable pub is_incompatible_rule : Rule → Bool
is_incompatible_rule r =
    has_repeated_type r.filters
    || (list_any is_redirect r.filters && (list_any is_rewrite r.filters || nat_lt 0 (length r.backend_refs)))
    || (list_any replaces_prefix r.filters && not (has_one_prefix r.matches))
    || list_any (λ b. has_repeated_type b.filters) r.backend_refs

-- Why no listener can serve the Route as it stands, if so. Source: RouteReasonUnsupportedValue, RouteReasonIncompatibleFilters.
unfoldable pub unsupported_of : HttpRoute → Option Reason
unsupported_of r =
    if list_any is_unsupported_rule r.rules then Some reasons.UnsupportedValue
    else (if list_any is_incompatible_rule r.rules then Some reasons.IncompatibleFilters
    else None)
