-- A Namespace, field by field. Source: Namespace of the Kubernetes API.
use Rattle.std.specs.Prelude.{Result, Ok}
use Rattle.gw_json.specs.declared.refusal.Refusal.{Refusal}
use Rattle.gw_json.specs.Words.{◌>>=◌}
use Rattle.gw_json.specs.Fields.{Node}
use Rattle.gw_text.specs.model.Meta.{Meta}
use Rattle.gw_text.specs.model.Namespaces.{Namespace, with_own_name}
use Rattle.gw_objects.specs.Labels.{labels_of}

-- The fields of a Namespace.
unfoldable pub namespace_of : Meta → Node → Result Namespace Refusal
namespace_of meta at = do
  labels ← labels_of at
  Ok (record { meta = meta; labels = with_own_name meta.key.name labels })
