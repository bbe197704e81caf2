-- What a selector of labels asks, and which labels it accepts. Source: LabelSelector of the Kubernetes API.
use Rattle.std.specs.Prelude.{ℕ, List, Bool, false, not, Option, Some, None, is_some, bytes_eq}
use Rattle.std.specs.List.{list_all, list_any}
use Rattle.std.specs.Map.{lookup}

-- The operators of matchExpressions: In, NotIn, Exists and DoesNotExist.
pub data Op : Type 0 where
  is_in : Op
  is_not_in : Op
  key_exists : Op
  key_does_not_exist : Op

-- What is asked of one key: an element of matchExpressions, or of matchLabels as In with its one value.
pub record Requirement : Type 0 where
  pub key : List ℕ
  pub op : Op
  pub values : List (List ℕ)

-- The value of a key in labels.
abbrev pub label_of : List ℕ → List (List ℕ × List ℕ) → Option (List ℕ)
label_of key labels = lookup (bytes_eq key) labels

-- The key's value is one of the values.
abbrev pub is_among : List (List ℕ) → Option (List ℕ) → Bool
is_among values None = false
is_among values (Some value) = list_any (bytes_eq value) values

-- An operator's meaning, of the key's value. NotIn and DoesNotExist hold where the key is absent.
abbrev pub op_holds : Op → List (List ℕ) → Option (List ℕ) → Bool
op_holds is_in values found = is_among values found
op_holds is_not_in values found = not (is_among values found)
op_holds key_exists values found = is_some found
op_holds key_does_not_exist values found = not (is_some found)

-- The labels are as the requirement asks.
abbrev pub is_required_of : List (List ℕ × List ℕ) → Requirement → Bool
is_required_of labels r = op_holds r.op r.values (label_of r.key labels)

-- A selector accepts the labels of which all its requirements hold; one without requirements accepts all, and an absent one none.
unfoldable pub selector_accepts : Option (List Requirement) → List (List ℕ × List ℕ) → Bool
selector_accepts None labels = false
selector_accepts (Some requirements) labels = list_all (is_required_of labels) requirements
