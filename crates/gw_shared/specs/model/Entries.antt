-- A key with its value, and how a key is looked for among several.
use Rattle.std.specs.Prelude.{ℕ, List, Bool, ◌&&◌, ◌==◌, bytes_eq, find, Option, option_map}

-- A key with its value, and the key's hash.
pub record Entry (V : Type 0) : Type 0 where
  pub hash : ℕ
  pub key : List ℕ
  pub value : V

-- The entry is that of this key, which has this hash.
abbrev pub is_of : {V : Type 0} → ℕ → List ℕ → Entry V → Bool
is_of hash key e = (e.hash == hash) && bytes_eq e.key key

-- The value of the first entry that is that of the key.
abbrev pub found_in : {V : Type 0} → ℕ → List ℕ → List (Entry V) → Option V
found_in hash key entries = option_map (λ e. e.value) (find (is_of hash key) entries)
