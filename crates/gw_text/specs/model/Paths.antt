-- Paths of requests: which of them a PathPrefix fits, and what stands in the place of a prefix.
use Rattle.std.specs.Prelude.{◌≡◌, ℕ, Bool, List, [], ◌∷◌, ◌++◌, ◌-◌, ◌==◌, nat_eq, length, take, drop, codes, if◌then◌else◌}
use Rattle.std.specs.List.{slice_split, starts_with, ends_with}
use Rattle.std.specs.Str.{bytes_eq}

-- The byte `/`.
abbrev pub SLASH : ℕ
SLASH = 47

-- The elements of a path: "the list of labels in the path split by the / separator". Source: PathMatchPathPrefix.
abbrev pub elements : List ℕ → List (List ℕ)
elements = slice_split (λ b. b == SLASH)

-- A value without one slash at its end: "when specified, a trailing / is ignored". Source: PathMatchPathPrefix.
abbrev pub without_slash : List ℕ → List ℕ
without_slash value = if ends_with nat_eq value (codes "/") then take (length value - 1) value else value

-- A PathPrefix fits a path whose elements begin with its own, "element by element" and with regard to case.
-- Source: PathMatchPathPrefix.
abbrev pub is_path_prefix : List ℕ → List ℕ → Bool
is_path_prefix value path = starts_with bytes_eq (elements path) (elements (without_slash value))

-- Nothing, or a text that begins with a slash.
abbrev pub EndsElement : List ℕ → Type 0
EndsElement [] = Unit {0}
EndsElement (b ∷ rest) = b ≡ SLASH

-- The same in bytes: the path is the value without its slash, and after it nothing, or a slash and more.
abbrev pub BeginsWithPrefix : List ℕ → List ℕ → Type 0
BeginsWithPrefix value path = (rest : List ℕ) × (path ≡ without_slash value ++ rest) × EndsElement rest

-- A text with a slash before it, where it isn't empty and doesn't begin so.
abbrev pub rooted : List ℕ → List ℕ
rooted [] = []
rooted (b ∷ text) = if b == SLASH then b ∷ text else SLASH ∷ b ∷ text

-- A path is never empty: a slash stands in the place of nothing.
abbrev pub path_or_root : List ℕ → List ℕ
path_or_root [] = codes "/"
path_or_root (b ∷ path) = b ∷ path

-- The path with the replacement, without its slash at the end, in the place of the prefix that fits it.
-- Source: ReplacePrefixMatch of HTTPPathModifier, with its table of examples.
abbrev pub with_prefix_replaced : List ℕ → List ℕ → List ℕ → List ℕ
with_prefix_replaced path prefix replacement =
    path_or_root (rooted (without_slash replacement) ++ drop (length (without_slash prefix)) path)
