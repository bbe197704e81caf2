-- Fields of HTTP messages.
use Rattle.std.specs.Prelude.{ℕ, List, Bool, bytes_eq, map}
use Rattle.std.specs.Char.{to_ascii_lowercase}

-- A field line: its name and its value. Source: RFC 9110 section 5.
pub record Field : Type 0 where
  pub name : List ℕ
  pub value : List ℕ

-- "Field names are case-insensitive". Source: RFC 9110 section 5.1.
abbrev pub same_field_name : List ℕ → List ℕ → Bool
same_field_name a b = bytes_eq (map to_ascii_lowercase a) (map to_ascii_lowercase b)
