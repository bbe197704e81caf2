-- Labels: a map from texts to texts, as the list of its entries. Source: ObjectMeta of the Kubernetes API, labels.
use Rattle.std.specs.Prelude.{ℕ, List, Option, bytes_eq}
use Rattle.std.specs.BTreeMap.{insert_entry}
use Rattle.std.specs.Cmp.Lexicographic.{slice_cmp}
use Rattle.std.specs.List.Sorted.{IsStrictlySortedBy}
use Rattle.std.specs.Map.{keys_of, lookup}
use Rattle.std.specs.Ordering.{nat_cmp}
use Rattle.std.specs.declared.cmp.Ordering.{Ordering}

-- Texts are compared byte by byte.
abbrev pub text_order : List ℕ → List ℕ → Ordering
text_order = slice_cmp nat_cmp

-- The labels with this one: the value of an equal key is replaced, and a new key goes to its place in the order.
abbrev pub put : List ℕ → List ℕ → List (List ℕ × List ℕ) → List (List ℕ × List ℕ)
put key value labels = insert_entry text_order labels key value

-- The value of a key.
abbrev pub label_of : List ℕ → List (List ℕ × List ℕ) → Option (List ℕ)
label_of key labels = lookup (bytes_eq key) labels

-- The keys ascend byte by byte, so each stands once.
abbrev pub IsInKeyOrder : List (List ℕ × List ℕ) → Type 0
IsInKeyOrder labels = IsStrictlySortedBy text_order (keys_of labels)
