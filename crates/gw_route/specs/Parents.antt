-- The parentRefs of an HTTPRoute, line by line. Source: ParentReference of the Gateway API reference.
use Rattle.std.specs.Prelude.{ℕ, List, codes, Result, Ok}
use Rattle.gw_json.specs.declared.refusal.Refusal.{Refusal}
use Rattle.gw_json.specs.Words.{◌>>=◌}
use Rattle.gw_json.specs.Fields.{Node}
use Rattle.gw_json.specs.Presence.{needed, given, defaulted, port_of}
use Rattle.gw_forms.specs.Forms as forms
use Rattle.gw_text.specs.model.Kinds.{gateway_group}
use Rattle.gw_text.specs.model.Routes.{ParentRef}
use Rattle.gw_route.specs.declared.field_names.TheConstants.{SECTION_NAME}

-- A reference from a Route of that namespace.
unfoldable pub parent_of : List ℕ → Node → Result ParentRef Refusal
parent_of own at = do
  group ← defaulted gateway_group forms.word (codes "group") at
  kind ← defaulted (codes "Gateway") forms.word (codes "kind") at
  namespace ← defaulted own forms.namespace (codes "namespace") at
  name ← needed forms.name (codes "name") at
  section_name ← given forms.name SECTION_NAME.now at
  port ← given port_of (codes "port") at
  Ok (record { group = group; kind = kind; namespace = namespace; name = name; section_name = section_name; port = port })
