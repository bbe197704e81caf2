-- Namespaces and their labels. Source: Namespace of the Kubernetes API.
use Rattle.std.specs.Prelude.{ℕ, List, codes}
use Rattle.std.specs.BTreeMap.{insert_entry}
use Rattle.std.specs.Cmp.Lexicographic.{slice_cmp}
use Rattle.std.specs.Ordering.{nat_cmp}
use Rattle.gw_text.specs.model.Forms.{printed}
use Rattle.gw_text.specs.model.Meta.{Meta}

-- A Namespace.
pub record Namespace : Type 0 where
  pub meta : Meta
  -- keys and values in the byte order of the keys; `kubernetes.io/metadata.name` has the namespace's name
  pub labels : List (List ℕ × List ℕ)

-- The label that an API server sets on every namespace, whatever is written: its own name. Source: the well-known label
-- kubernetes.io/metadata.name.
abbrev pub with_own_name : List ℕ → List (List ℕ × List ℕ) → List (List ℕ × List ℕ)
with_own_name name labels = insert_entry (slice_cmp nat_cmp) labels (codes "kubernetes.io/metadata.name") (printed name)
