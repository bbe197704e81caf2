-- What a line means, and how a value is written as one.
use Rattle.std.specs.Prelude.{ℕ, List, ◌++◌, length, codes, nat_le, if◌then◌else◌, Option, None, Result}
use Rattle.std.specs.Str.{is_utf8}
use Rattle.serde_json.specs.Data.{Data}
use Rattle.serde_json.specs.Read.{read}
use Rattle.serde_json.specs.Written.{compact_text}
use Rattle.gw_json.specs.declared.refusal.Refusal.{Refusal}
use Rattle.gw_json.specs.declared.refusal.Refusal.TheVariants.{NotJson, TooLong}
use Rattle.gw_json.specs.Words.{◌>>=◌, or, want}

-- One JSON text (RFC 8259) in UTF-8 that nests at most 127 deep, as `serde_json` reads it.
unfoldable pub json_of : List ℕ → Option Data
json_of line = if is_utf8 line then read line else None

-- The bytes that a line may have: a mebibyte.
abbrev pub max_line : ℕ
max_line = 1048576

-- A line is not too long, and it is JSON.
unfoldable pub value_of : List ℕ → Result Data Refusal
value_of line = do
  _ ← want (TooLong (codes "line")) (nat_le (length line) max_line)
  or NotJson (json_of line)

-- The compact text of a value without floats, and a line feed.
abbrev pub line_of : Data → List ℕ
line_of d = compact_text d ++ codes "\n"
