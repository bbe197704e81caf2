use Rattle.std.proofs.Common.{◌≡◌, ◌++◌, drop}
use Rattle.gw_messages.specs.model.Values.{lower}
use Rattle.gw_replies.proofs.write.push_lower.Given as goal

abbrev pub invariant-bytes : goal.invariant-bytes
invariant-bytes l = l.out.items ++ lower (drop l.byte-index l.text) ≡ l.fn.out.items ++ lower l.text
