-- The metadata of an object, field by field. Source: ObjectMeta of the Kubernetes API.
use Rattle.std.specs.Prelude.{ℕ, List, [], codes, Bool, false, if◌then◌else◌, Result, Ok}
use Rattle.std.specs.Option.{option_map_or}
use Rattle.gw_json.specs.declared.refusal.Refusal.{Refusal}
use Rattle.gw_json.specs.Words.{◌>>=◌}
use Rattle.gw_json.specs.Fields.{Node, number_of}
use Rattle.gw_json.specs.Presence.{needed, given, defaulted, node_of_object}
use Rattle.gw_text.specs.model.Kinds.{row_of, kind_named}
use Rattle.gw_text.specs.model.Meta.{Meta}
use Rattle.gw_text.specs.model.Names.{Key}
use Rattle.gw_objects.specs.declared.fields.TheConstants.{CREATION_TIMESTAMP}
use Rattle.gw_forms.specs.Forms as forms

-- The metadata must be there, an object.
abbrev pub metadata_of : Node → Result Node Refusal
metadata_of at = needed node_of_object (codes "metadata") at

-- Objects of the kind of this name stand in namespaces.
abbrev pub is_namespaced : List ℕ → Bool
is_namespaced kind = option_map_or (λ k. (row_of k).is_namespaced) (kind_named kind) false

-- The namespace, which is `default` where none is written; kinds without one have the empty text.
unfoldable pub namespace_in : List ℕ → Node → Result (List ℕ) Refusal
namespace_in kind metadata =
    if is_namespaced kind then defaulted (codes "default") forms.namespace (codes "namespace") metadata else Ok []

-- The name and then the namespace, which are the key.
unfoldable pub key_in : List ℕ → Node → Result Key Refusal
key_in kind metadata = do
  name ← needed forms.name (codes "name") metadata
  namespace ← namespace_in kind metadata
  Ok (record { namespace = namespace; name = name })

-- The key alone, of an object of which nothing else is read.
unfoldable pub key_of : List ℕ → Node → Result Key Refusal
key_of kind at = do
  metadata ← metadata_of at
  key_in kind metadata

-- The fields of the metadata, in the order in which they are read. The generation is an int64 that is not negative.
unfoldable pub meta_of : List ℕ → Node → Result Meta Refusal
meta_of kind at = do
  metadata ← metadata_of at
  key ← key_in kind metadata
  created ← given forms.moment CREATION_TIMESTAMP.now metadata
  generation ← defaulted 1 (number_of 0 9223372036854775807) (codes "generation") metadata
  Ok (record { key = key; created = created; generation = generation })
