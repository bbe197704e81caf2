-- Reading a line: what a value or a refusal of serde_json says of `value_of`.
use Rattle.std.proofs.Common.{◌≡◌, ℕ, ◌≤◌, Bool, true, false, List, length, Some, None, Ok, Err, refl}
use Rattle.std.proofs.lemmas.Bool.{le-leb}
use Rattle.std.proofs.lemmas.Str.{IsUtf8-from_is_utf8, is_utf8-from_IsUtf8}
use Rattle.std.specs.Str.{is_utf8, IsUtf8}
use Rattle.serde_json.specs.Data.{Data}
use Rattle.serde_json.specs.Read.{read}
use Rattle.gw_json.specs.declared.refusal.Refusal.TheVariants.{NotJson}
use Rattle.gw_json.specs.Lines.{max_line, json_of, value_of}

-- a short line that was read
pub value_of-read : (line : List ℕ) (d : Data) → length line ≤ max_line → IsUtf8 line → read line ≡ Some d → value_of line ≡ Ok d
unfolding value_of json_of
value_of-read line d short utf8 is = rw (le-leb _ _ short, is_utf8-from_IsUtf8 line utf8, is)

json_of-none : (line : List ℕ) (b : Bool) → is_utf8 line ≡ b → (IsUtf8 line → read line ≡ None) → json_of line ≡ None
unfolding json_of
json_of-none line true utf8 none = rw (utf8, none (IsUtf8-from_is_utf8 line utf8))
json_of-none line false utf8 none = rw utf8

-- a short line that is no JSON
pub value_of-refused : (line : List ℕ) → length line ≤ max_line → (IsUtf8 line → read line ≡ None) → value_of line ≡ Err NotJson
unfolding value_of
value_of-refused line short none = rw (le-leb _ _ short, json_of-none line _ refl none)
