-- An HTTPRoute, line by line. Source: HTTPRoute of the Gateway API reference.
use Rattle.std.specs.Prelude.{ℕ, List, [], ◌∷◌, codes, false, Result, Ok}
use Rattle.gw_json.specs.declared.refusal.Refusal.{Refusal}
use Rattle.gw_json.specs.Words.{◌>>=◌}
use Rattle.gw_json.specs.Fields.{Node}
use Rattle.gw_json.specs.Presence.{defaulted, is_given, list_of, listed, spec_of}
use Rattle.gw_forms.specs.Forms as forms
use Rattle.gw_text.specs.model.Meta.{Meta}
use Rattle.gw_text.specs.model.Routes.{Rule, HttpRoute}
use Rattle.gw_route.specs.declared.field_names.TheConstants.{PARENT_REFS, BACKEND_REFS}
use Rattle.gw_route.specs.Parents.{parent_of}
use Rattle.gw_route.specs.Matches.{default_match, match_of, or_default}
use Rattle.gw_route.specs.Filters.{filter_of}
use Rattle.gw_route.specs.Backends.{backend_of}

-- A rule of a Route of that namespace. Source: HTTPRouteRule.
unfoldable pub rule_of : List ℕ → Node → Result Rule Refusal
rule_of own at = do
  matches ← listed 64 match_of (codes "matches") at
  filters ← listed 16 filter_of (codes "filters") at
  backend_refs ← listed 16 (backend_of own) BACKEND_REFS.now at
  timeouts ← is_given (codes "timeouts") at
  Ok (record { matches = or_default matches; filters = filters; backend_refs = backend_refs; timeouts = timeouts })

-- The rule that a Route without a list of rules has. Source: rules of HTTPRouteSpec.
abbrev pub default_rule : Rule
default_rule = record { matches = default_match ∷ []; filters = []; backend_refs = []; timeouts = false }

-- The rules of a Route of that namespace.
unfoldable pub rules_of : List ℕ → Node → Result (List Rule) Refusal
rules_of own spec = defaulted (default_rule ∷ []) (list_of 16 (rule_of own)) (codes "rules") spec

-- The HTTPRoute of that metadata.
unfoldable pub route_of : Meta → Node → Result HttpRoute Refusal
route_of meta at = do
  spec ← spec_of at
  parent_refs ← listed 32 (parent_of meta.key.namespace) PARENT_REFS.now spec
  hostnames ← listed 16 forms.hostname (codes "hostnames") spec
  rules ← rules_of meta.key.namespace spec
  Ok (record { meta = meta; parent_refs = parent_refs; hostnames = hostnames; rules = rules })
