-- A ReferenceGrant, field by field. Source: ReferenceGrant of the Gateway API reference.
use Rattle.std.specs.Prelude.{codes, Result, Ok}
use Rattle.gw_json.specs.declared.refusal.Refusal.{Refusal}
use Rattle.gw_json.specs.Words.{◌>>=◌}
use Rattle.gw_json.specs.Fields.{Node}
use Rattle.gw_json.specs.Presence.{needed, given, list_of, spec_of}
use Rattle.gw_text.specs.model.Meta.{Meta}
use Rattle.gw_text.specs.model.Grants.{GrantFrom, GrantTo, ReferenceGrant}
use Rattle.gw_forms.specs.Forms as forms

-- An item of spec.from: ReferenceGrantFrom.
unfoldable pub grant_from_of : Node → Result GrantFrom Refusal
grant_from_of at = do
  group ← needed forms.word (codes "group") at
  kind ← needed forms.word (codes "kind") at
  namespace ← needed forms.namespace (codes "namespace") at
  Ok (record { group = group; kind = kind; namespace = namespace })

-- An item of spec.to: ReferenceGrantTo.
unfoldable pub grant_to_of : Node → Result GrantTo Refusal
grant_to_of at = do
  group ← needed forms.word (codes "group") at
  kind ← needed forms.word (codes "kind") at
  name ← given forms.name (codes "name") at
  Ok (record { group = group; kind = kind; name = name })

-- The fields of a ReferenceGrant, in the order in which they are read.
unfoldable pub grant_of : Meta → Node → Result ReferenceGrant Refusal
grant_of meta at = do
  spec ← spec_of at
  from ← needed (list_of 16 grant_from_of) (codes "from") spec
  to ← needed (list_of 16 grant_to_of) (codes "to") spec
  Ok (record { meta = meta; from = from; to = to })
