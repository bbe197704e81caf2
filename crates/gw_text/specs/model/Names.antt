-- Names and keys of objects.
use Rattle.std.specs.Prelude.{ℕ, List, [], ◌∷◌, ◌++◌, Bool, true, false, ◌&&◌, codes}
use Rattle.std.specs.Cmp.Lexicographic.{slice_cmp}
use Rattle.std.specs.Ordering.{nat_cmp}
use Rattle.std.specs.Str.{bytes_eq}
use Rattle.std.specs.declared.cmp.Ordering.{Ordering}

-- An object's namespace and name; the namespace is empty for kinds without one.
pub record Key : Type 0 where
  pub namespace : List ℕ
  pub name : List ℕ

-- What stands between namespace and name: a slash where there is a namespace.
abbrev pub separator : List ℕ → List ℕ
separator [] = []
separator (b ∷ namespace) = codes "/"

-- `namespace/name`, or the name alone: the text by which objects of a kind are ordered, byte by byte.
abbrev pub joined : Key → List ℕ
joined k = k.namespace ++ separator k.namespace ++ k.name

-- The order of keys is that of their texts.
abbrev pub key_order : Key → Key → Ordering
key_order a b = slice_cmp nat_cmp (joined a) (joined b)

-- Two keys are the same where both texts are, byte by byte.
abbrev pub same_key : Key → Key → Bool
same_key a b = bytes_eq a.namespace b.namespace && bytes_eq a.name b.name

-- The text isn't empty.
abbrev pub is_given : List ℕ → Bool
is_given [] = false
is_given (b ∷ t) = true

-- The object of this key stands in the namespace; one without a namespace stands in none.
abbrev pub is_in_namespace : List ℕ → Key → Bool
is_in_namespace namespace k = is_given namespace && bytes_eq k.namespace namespace

-- The key of an object without a namespace, as a GatewayClass or a Namespace.
abbrev pub cluster_key : List ℕ → Key
cluster_key name = record { namespace = []; name = name }
