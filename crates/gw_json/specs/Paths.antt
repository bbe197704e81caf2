-- How the place of a field is written, from the object down, as in a Kubernetes API server's messages: spec.listeners[0].port
use Rattle.std.specs.Prelude.{ℕ, List, [], ◌∷◌, ◌++◌, codes, decimal}

-- The object's path, a dot and the member's name; at the object itself, the name alone.
abbrev pub member_path : List ℕ → List ℕ → List ℕ
member_path [] name = name
member_path (b ∷ path) name = (b ∷ path) ++ (codes "." ++ name)

-- The list's path and the item's index in brackets, from 0.
abbrev pub item_path : List ℕ → ℕ → List ℕ
item_path path index = path ++ codes "[" ++ decimal index ++ codes "]"
