-- The backendRefs of a rule, line by line. Source: HTTPBackendRef of the Gateway API reference.
use Rattle.std.specs.Prelude.{ℕ, List, [], codes, Bool, true, false, Option, Some, Result, Ok}
use Rattle.gw_json.specs.declared.refusal.Refusal.{Refusal}
use Rattle.gw_json.specs.Words.{◌>>=◌}
use Rattle.gw_json.specs.Fields.{Node, number_of}
use Rattle.gw_json.specs.Presence.{needed, given, defaulted, listed, port_of}
use Rattle.gw_forms.specs.Forms as forms
use Rattle.gw_text.specs.model.Routes.{BackendRef, is_core_service}
use Rattle.gw_route.specs.Filters.{filter_of}

-- A Service needs a port. Source: BackendObjectReference, port.
unfoldable pub backend_port_of : Bool → Node → Result (Option ℕ) Refusal
backend_port_of true at = do
  port ← needed port_of (codes "port") at
  Ok (Some port)
backend_port_of false at = given port_of (codes "port") at

-- A reference from a Route of that namespace.
unfoldable pub backend_of : List ℕ → Node → Result BackendRef Refusal
backend_of own at = do
  group ← defaulted [] forms.word (codes "group") at
  kind ← defaulted (codes "Service") forms.word (codes "kind") at
  name ← needed forms.name (codes "name") at
  namespace ← defaulted own forms.namespace (codes "namespace") at
  port ← backend_port_of (is_core_service group kind) at
  weight ← defaulted 1 (number_of 0 1000000) (codes "weight") at
  filters ← listed 16 filter_of (codes "filters") at
  Ok (record { group = group; kind = kind; name = name; namespace = namespace; port = port; weight = weight; filters = filters })
