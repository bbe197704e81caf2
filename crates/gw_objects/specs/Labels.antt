-- Labels, as an object of words. Source: ObjectMeta of the Kubernetes API, labels.
use Rattle.std.specs.Prelude.{ℕ, List, [], codes, fold, Result, Ok}
use Rattle.gw_json.specs.declared.refusal.Refusal.{Refusal}
use Rattle.gw_json.specs.Words.{◌>>=◌, each}
use Rattle.gw_json.specs.Fields.{Node, members_of}
use Rattle.gw_json.specs.Presence.{defaulted}
use Rattle.gw_labels.specs.Labels.{put}
use Rattle.gw_forms.specs.Forms as forms
use Rattle.gw_objects.specs.Metadata.{metadata_of}

-- A member of an object of words.
unfoldable pub label_of : List ℕ × Node → Result (List ℕ × List ℕ) Refusal
label_of member = do
  value ← forms.word member.1
  Ok (member.0, value)

-- The map that has the entries that were read, after those of a map before.
abbrev pub mapped_on : List (List ℕ × List ℕ) → Result (List (List ℕ × List ℕ)) Refusal → Result (List (List ℕ × List ℕ)) Refusal
mapped_on before read = read >>= λ entries. Ok (fold (λ map e. put e.0 e.1 map) before entries)

-- An object of words: a map, in the byte order of its keys.
unfoldable pub words_of : Node → Result (List (List ℕ × List ℕ)) Refusal
words_of at = do
  members ← members_of at
  mapped_on [] (each label_of members)

-- The labels of an object, of which there are none where the field is absent.
unfoldable pub labels_of : Node → Result (List (List ℕ × List ℕ)) Refusal
labels_of at = do
  metadata ← metadata_of at
  defaulted [] words_of (codes "labels") metadata
