-- The text so far, with the lines of the rest, is the whole.
use Rattle.std.proofs.Common.{◌≡◌, ◌++◌, drop, string_bytes}
use Rattle.gw_decide.specs.ExplainText.{reasons_text}
use Rattle.gw_decide.proofs.write.push_reasons.Given as goal

abbrev pub invariant-routes : goal.invariant-routes
invariant-routes l = string_bytes l.text ++ reasons_text (drop l.entry-index l.explained) ≡ string_bytes l.fn.text ++ reasons_text l.explained
