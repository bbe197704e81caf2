-- What filters of an HTTPRoute do to requests and responses.
use Rattle.std.specs.Prelude.{ℕ, List, [], Option, Some, None}
use Rattle.gw_text.specs.model.Fields.{Field}

-- Fields to set, fields to add, and names of fields to remove. Source: HTTPHeaderFilter of the Gateway API reference.
pub record Edits : Type 0 where
  pub set : List Field
  pub add : List Field
  pub remove : List (List ℕ)

-- Edits of nothing.
abbrev pub no_edits : Edits
no_edits = record { set = []; add = []; remove = [] }

-- What becomes of a path: a type that isn't read is kept by its name. Source: HTTPPathModifier of the Gateway API reference.
pub data PathModifier : Type 0 where
  replace_full_path : List ℕ → PathModifier
  replace_prefix_match : List ℕ → PathModifier
  another_modifier : List ℕ → PathModifier

-- The parts of a redirect's Location, and its status. Source: HTTPRequestRedirectFilter of the Gateway API reference.
pub record Redirect : Type 0 where
  pub scheme : Option (List ℕ)
  pub hostname : Option (List ℕ)
  pub path : Option PathModifier
  pub port : Option ℕ
  pub status_code : Option ℕ

-- The parts of a request's target that are rewritten. Source: HTTPURLRewriteFilter of the Gateway API reference.
pub record Rewrite : Type 0 where
  pub hostname : Option (List ℕ)
  pub path : Option PathModifier

-- A filter: a type that isn't read is kept by its name. Source: HTTPRouteFilter of the Gateway API reference.
pub data Filter : Type 0 where
  request_header_modifier : Edits → Filter
  response_header_modifier : Edits → Filter
  request_redirect : Redirect → Filter
  url_rewrite : Rewrite → Filter
  another_filter : List ℕ → Filter

-- The edits of requests that a filter is, if it is some. Source: HTTPRouteFilter, requestHeaderModifier.
abbrev pub request_edits : Filter → Option Edits
request_edits (request_header_modifier e) = Some e
request_edits (response_header_modifier e) = None
request_edits (request_redirect r) = None
request_edits (url_rewrite w) = None
request_edits (another_filter name) = None

-- The edits of responses that a filter is, if it is some. Source: HTTPRouteFilter, responseHeaderModifier.
abbrev pub response_edits : Filter → Option Edits
response_edits (request_header_modifier e) = None
response_edits (response_header_modifier e) = Some e
response_edits (request_redirect r) = None
response_edits (url_rewrite w) = None
response_edits (another_filter name) = None
