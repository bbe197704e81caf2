-- Bytes as a word gives them: a JSON text in quotes, in which each character stands for the byte of its number.
use Rattle.std.specs.Prelude.{ℕ, List, nat_lt, if◌then◌else◌, Option, None, Some}
use Rattle.std.specs.List.{list_all}
use Rattle.std.specs.Str.{chars}
use Rattle.serde_json.specs.Find.{as_str}
use Rattle.serde_json.specs.Read.{read}
use Rattle.gw_text.specs.model.Chains.{◌>>=◌}

-- The bytes of characters, each of its number, of which none may be above U+00FF.
abbrev pub bytes_in : List ℕ → Option (List ℕ)
bytes_in characters = if list_all (λ c. nat_lt c 256) characters then Some characters else None

-- The bytes that a JSON text in quotes (RFC 8259 section 7) stands for.
unfoldable pub quoted_bytes : List ℕ → Option (List ℕ)
quoted_bytes word = do
  value ← read word
  text ← as_str value
  bytes_in (chars text)
