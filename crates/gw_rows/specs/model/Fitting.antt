-- Which rows a request fits. Source: HTTPRouteMatch, HTTPHeaderMatch and HTTPQueryParamMatch of the Gateway API reference.
use Rattle.std.specs.Prelude.{ℕ, List, [], ◌∷◌, Bool, true, false, not, ◌&&◌, bytes_eq, find, Option, option_map}
use Rattle.std.specs.List.{list_all, join_with_byte}
use Rattle.std.specs.Option.{option_map_or}
use Rattle.gw_frames.specs.model.Requests.{Request}
use Rattle.gw_messages.specs.model.Values.{has_field, values_of}
use Rattle.gw_query.specs.model.Parameters.{Parameter, first_value, parameters_of}
use Rattle.gw_rows.specs.declared.fitting.Test.{Test}
use Rattle.gw_rows.specs.declared.fitting.Test.TheVariants as tests
use Rattle.gw_rows.specs.model.Rows.{Row, first_of_each}
use Rattle.gw_text.specs.declared.types.ValueMatchType.{ValueMatchType}
use Rattle.gw_text.specs.declared.types.ValueMatchType.TheVariants as value_types
use Rattle.gw_text.specs.model.Fields.{Field, same_field_name}
use Rattle.gw_text.specs.model.Hostnames.{Host, covers}
use Rattle.gw_text.specs.model.Matches.{Match, HeaderMatch, QueryParamMatch, path_fits}

-- The hostname covers the host, or is absent. Source: HTTPRouteSpec.hostnames.
abbrev pub hostname_fits : Option Host → List ℕ → Bool
hostname_fits hostname host = option_map_or (λ h. covers h host) hostname true

-- The method is the one that is asked for; where none is, every method fits. Source: HTTPRouteMatch, method.
abbrev pub method_fits : Option (List ℕ) → List ℕ → Bool
method_fits asked method = option_map_or (bytes_eq method) asked true

-- The value is the one that is asked for; a match of a type other than Exact fits none. Source: HeaderMatchType and
-- QueryParamMatchType.
abbrev pub value_fits : ValueMatchType → List ℕ → List ℕ → Bool
value_fits value_types.Exact asked value = bytes_eq value asked
value_fits (value_types.Other name) asked value = false

-- The values of the fields of a name as one, joined by commas. Source: RFC 9110 section 5.3.
abbrev pub combined_value : List ℕ → List Field → List ℕ
combined_value name fields = join_with_byte 44 (values_of name fields)

-- A field of the name is there, and its combined value fits. Source: HTTPHeaderMatch.
abbrev pub header_fits : List Field → HeaderMatch → Bool
header_fits fields h = has_field h.name fields && value_fits h.sort h.value (combined_value h.name fields)

-- Two matches are of one field.
abbrev pub same_header : HeaderMatch → HeaderMatch → Bool
same_header h other = same_field_name h.name other.name

-- The matches of fields that count: "If multiple entries specify equivalent header names, only the first entry with an equivalent
-- name MUST be considered for a match." Source: HTTPHeaderMatch, name.
abbrev pub counted_headers : List HeaderMatch → List HeaderMatch
counted_headers headers = first_of_each same_header headers

-- All of them fit.
abbrev pub headers_fit : List HeaderMatch → List Field → Bool
headers_fit headers fields = list_all (header_fits fields) (counted_headers headers)

-- The first parameter of the name is there, and its value fits: implementations "are recommended to match against the first value of
-- the param". Source: HTTPQueryParamMatch, name.
abbrev pub query_param_fits : List Parameter → QueryParamMatch → Bool
query_param_fits parameters q = option_map_or (value_fits q.sort q.value) (first_value q.name parameters) false

-- Two matches are of one parameter.
abbrev pub same_query_param : QueryParamMatch → QueryParamMatch → Bool
same_query_param q other = bytes_eq q.name other.name

-- The matches of parameters that count: the first of each name. Source: HTTPQueryParamMatch, name.
abbrev pub counted_query_params : List QueryParamMatch → List QueryParamMatch
counted_query_params matches = first_of_each same_query_param matches

-- All of them fit.
abbrev pub query_fits : List QueryParamMatch → Option (List ℕ) → Bool
query_fits matches query = list_all (query_param_fits (parameters_of query)) (counted_query_params matches)

-- The five tests of a row, in their order, each with its outcome.
abbrev pub outcomes : Row → Request → List (Test × Bool)
outcomes row q =
    (tests.Hostname, hostname_fits row.hostname q.host)
    ∷ (tests.Path, path_fits row.test.path q.path)
    ∷ (tests.Method, method_fits row.test.method q.method)
    ∷ (tests.Headers, headers_fit row.test.headers q.fields)
    ∷ (tests.Query, query_fits row.test.query_params q.query)
    ∷ []

-- A row fits where all its tests hold.
unfoldable pub fits : Row → Request → Bool
fits row q = list_all (λ o. o.1) (outcomes row q)

-- The first of its tests that doesn't hold.
unfoldable pub failed_test : Row → Request → Option Test
failed_test row q = option_map (λ o. o.0) (find (λ o. not o.1) (outcomes row q))
