-- The selector of a listener, field by field. Source: LabelSelector of the Kubernetes API.
use Rattle.std.specs.Prelude.{ℕ, List, [], ◌∷◌, ◌++◌, codes, bytes_eq, fold, if◌then◌else◌, Option, Some, None, Result, Ok}
use Rattle.std.specs.Map.{keys_of}
use Rattle.gw_json.specs.declared.refusal.Refusal.{Refusal}
use Rattle.gw_json.specs.Words.{◌>>=◌, each}
use Rattle.gw_json.specs.Fields.{Node, members_of, items_of}
use Rattle.gw_json.specs.Presence.{needed, defaulted, listed, parsed, any_length}
use Rattle.gw_labels.specs.Labels.{put}
use Rattle.gw_labels.specs.declared.selector.Op.{Op}
use Rattle.gw_labels.specs.declared.selector.Op.TheVariants.{In, NotIn, Exists, DoesNotExist}
use Rattle.gw_labels.specs.Selectors.{Requirement}
use Rattle.gw_objects.specs.declared.fields.TheConstants.{MATCH_LABELS, MATCH_EXPRESSIONS}
use Rattle.gw_forms.specs.Forms as forms

-- A member of matchLabels requires its one value of its key.
unfoldable pub label_requirement_of : List ℕ × Node → Result Requirement Refusal
label_requirement_of member = do
  value ← forms.word member.1
  Ok (record { key = member.0; op = In; values = value ∷ [] })

-- The members of matchLabels, in the byte order of their names.
unfoldable pub match_labels_of : Node → Result (List Requirement) Refusal
match_labels_of at = do
  members ← members_of at
  each label_requirement_of members

-- The operator of that name.
unfoldable pub named_op : List ℕ → Option Op
named_op t =
    if bytes_eq t (codes "In") then Some In
    else (if bytes_eq t (codes "NotIn") then Some NotIn
    else (if bytes_eq t (codes "Exists") then Some Exists
    else (if bytes_eq t (codes "DoesNotExist") then Some DoesNotExist
    else None)))

-- The set of the texts that were read, with those of a set before: the keys of a map.
abbrev pub gathered_on : List (List ℕ × List ℕ) → Result (List (List ℕ)) Refusal → Result (List (List ℕ × List ℕ)) Refusal
gathered_on before read = read >>= λ texts. Ok (fold (λ set text. put text [] set) before texts)

-- The values are a set of at most 64 words, as the keys of a map: each once, in byte order.
unfoldable pub values_of : Node → Result (List (List ℕ × List ℕ)) Refusal
values_of at = do
  nodes ← items_of 64 at
  gathered_on [] (each forms.word nodes)

-- The fields of an item of matchExpressions, in the order in which they are read: LabelSelectorRequirement.
unfoldable pub expression_of : Node → Result Requirement Refusal
expression_of at = do
  key ← needed forms.word (codes "key") at
  op ← needed (parsed any_length named_op) (codes "operator") at
  values ← defaulted [] values_of (codes "values") at
  Ok (record { key = key; op = op; values = keys_of values })

-- The requirements of a selector: those of matchLabels, then those of matchExpressions.
unfoldable pub selector_of : Node → Result (List Requirement) Refusal
selector_of at = do
  labels ← defaulted [] match_labels_of MATCH_LABELS.now at
  expressions ← listed 64 expression_of MATCH_EXPRESSIONS.now at
  Ok (labels ++ expressions)
