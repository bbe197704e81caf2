-- The matches of a rule, line by line. Source: HTTPRouteMatch of the Gateway API reference.
use Rattle.std.specs.Prelude.{List, [], ◌∷◌, codes, None, Result, Ok}
use Rattle.gw_json.specs.declared.refusal.Refusal.{Refusal}
use Rattle.gw_json.specs.Words.{◌>>=◌}
use Rattle.gw_json.specs.Fields.{Node}
use Rattle.gw_json.specs.Presence.{needed, given, defaulted, listed}
use Rattle.gw_forms.specs.Forms as forms
use Rattle.gw_forms.specs.declared.plain.Plain.{Plain}
use Rattle.gw_forms.specs.declared.plain.Plain.TheVariants.{Path, AnyPath}
use Rattle.gw_text.specs.declared.types.PathMatchType.{PathMatchType}
use Rattle.gw_text.specs.declared.types.PathMatchType.TheVariants as path_types
use Rattle.gw_text.specs.declared.types.ValueMatchType.TheVariants as value_types
use Rattle.gw_text.specs.model.Matches.{PathMatch, HeaderMatch, QueryParamMatch, Match}
use Rattle.gw_route.specs.declared.field_names.TheConstants.{QUERY_PARAMS}

-- The form of a path depends on the type of the match.
abbrev pub path_form : PathMatchType → Plain
path_form path_types.Exact = Path
path_form path_types.PathPrefix = Path
path_form (path_types.Other name) = AnyPath

-- What is asked of the path. Source: HTTPPathMatch.
unfoldable pub path_of : Node → Result PathMatch Refusal
path_of at = do
  sort ← defaulted path_types.PathPrefix forms.path_match_type (codes "type") at
  value ← defaulted (codes "/") (forms.plain (path_form sort)) (codes "value") at
  Ok (record { sort = sort; value = value })

-- Every path begins with a slash.
abbrev pub any_path : PathMatch
any_path = record { sort = path_types.PathPrefix; value = codes "/" }

-- What is asked of a field. Source: HTTPHeaderMatch.
unfoldable pub header_of : Node → Result HeaderMatch Refusal
header_of at = do
  sort ← defaulted value_types.Exact forms.value_match_type (codes "type") at
  name ← needed forms.token (codes "name") at
  value ← needed forms.field_value (codes "value") at
  Ok (record { sort = sort; name = name; value = value })

-- What is asked of a query parameter. Source: HTTPQueryParamMatch.
unfoldable pub query_param_of : Node → Result QueryParamMatch Refusal
query_param_of at = do
  sort ← defaulted value_types.Exact forms.value_match_type (codes "type") at
  name ← needed forms.parameter_name (codes "name") at
  value ← needed forms.parameter_value (codes "value") at
  Ok (record { sort = sort; name = name; value = value })

-- A match.
unfoldable pub match_of : Node → Result Match Refusal
match_of at = do
  path ← defaulted any_path path_of (codes "path") at
  headers ← listed 16 header_of (codes "headers") at
  query_params ← listed 16 query_param_of QUERY_PARAMS.now at
  method ← given forms.word (codes "method") at
  Ok (record { path = path; headers = headers; query_params = query_params; method = method })

-- The match that a rule without matches has. Source: matches of HTTPRouteRule.
abbrev pub default_match : Match
default_match = record { path = any_path; headers = []; query_params = []; method = None }

-- The matches that a rule has, with those that it lists.
abbrev pub or_default : List Match → List Match
or_default [] = default_match ∷ []
or_default (m ∷ matches) = m ∷ matches
