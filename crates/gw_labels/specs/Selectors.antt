-- What a selector of labels asks, and which labels it accepts. Source: LabelSelector of the Kubernetes API.
use Rattle.std.specs.Prelude.{ℕ, List, Bool, false, not, Option, Some, None, is_some, bytes_eq}
use Rattle.std.specs.List.{list_all, list_any}
use Rattle.gw_labels.specs.declared.selector.Op.{Op}
use Rattle.gw_labels.specs.declared.selector.Op.TheVariants.{In, NotIn, Exists, DoesNotExist}
use Rattle.gw_labels.specs.Labels.{label_of}

-- What is asked of one key: an element of matchExpressions, or of matchLabels as In with its one value.
pub record Requirement : Type 0 where
  pub key : List ℕ
  pub op : Op
  pub values : List (List ℕ)

-- The key's value is one of the values.
abbrev pub is_among : List (List ℕ) → Option (List ℕ) → Bool
is_among values None = false
is_among values (Some value) = list_any (bytes_eq value) values

-- An operator's meaning, of the key's value. NotIn and DoesNotExist hold where the key is absent.
abbrev pub holds : Op → List (List ℕ) → Option (List ℕ) → Bool
holds In values found = is_among values found
holds NotIn values found = not (is_among values found)
holds Exists values found = is_some found
holds DoesNotExist values found = not (is_some found)

-- The labels meet a requirement.
abbrev pub meets : List (List ℕ × List ℕ) → Requirement → Bool
meets labels r = holds r.op r.values (label_of r.key labels)

-- All requirements hold; where there is none, all labels are accepted.
abbrev pub selects : List Requirement → List (List ℕ × List ℕ) → Bool
selects s labels = list_all (meets labels) s
