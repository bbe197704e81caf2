use Rattle.std.proofs.Common.{◌≡◌, ◌++◌, drop, string_bytes, encode_utf8_all}
use Rattle.gw_text.proofs.text.Text.spelled.Given as goal

abbrev pub invariant-bytes : goal.invariant-bytes
invariant-bytes l = string_bytes l.printed ++ encode_utf8_all (drop l.byte-index l.fn.self) ≡ encode_utf8_all l.fn.self
