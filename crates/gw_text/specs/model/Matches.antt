-- What a rule of an HTTPRoute asks of a request.
use Rattle.std.specs.Prelude.{ℕ, List, Bool, false, bytes_eq, Option}
use Rattle.gw_text.specs.declared.types.PathMatchType.{PathMatchType}
use Rattle.gw_text.specs.declared.types.PathMatchType.TheVariants as path_types
use Rattle.gw_text.specs.declared.types.ValueMatchType.{ValueMatchType}
use Rattle.gw_text.specs.model.Paths.{is_path_prefix}

-- A type, as Exact or PathPrefix, and the path that it is about. Source: HTTPPathMatch of the Gateway API reference.
pub record PathMatch : Type 0 where
  pub sort : PathMatchType
  pub value : List ℕ

-- A type, as Exact, and the field that it is about. Source: HTTPHeaderMatch of the Gateway API reference.
pub record HeaderMatch : Type 0 where
  pub sort : ValueMatchType
  pub name : List ℕ
  pub value : List ℕ

-- A type, as Exact, and the query parameter that it is about. Source: HTTPQueryParamMatch of the Gateway API reference.
pub record QueryParamMatch : Type 0 where
  pub sort : ValueMatchType
  pub name : List ℕ
  pub value : List ℕ

-- All of these have to hold of a request. Source: HTTPRouteMatch of the Gateway API reference.
pub record Match : Type 0 where
  pub path : PathMatch
  pub headers : List HeaderMatch
  pub query_params : List QueryParamMatch
  pub method : Option (List ℕ)

-- A match of this type and value fits the path; one of another type fits none. Source: HTTPPathMatch.
abbrev pub fits_by : PathMatchType → List ℕ → List ℕ → Bool
fits_by path_types.Exact value path = bytes_eq value path
fits_by path_types.PathPrefix value path = is_path_prefix value path
fits_by (path_types.Other name) value path = false

-- The path match fits the path.
abbrev pub path_fits : PathMatch → List ℕ → Bool
path_fits m path = fits_by m.sort m.value path
