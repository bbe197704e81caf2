use Rattle.std.proofs.Common.{◌≡◌, length}
use Rattle.httparse.specs.Grammar.{skip_ows}
use Rattle.gw_messages.proofs.element.trim_start.Given as goal

abbrev pub invariant-blanks : goal.invariant-blanks
invariant-blanks l = skip_ows l.bytes ≡ skip_ows l.left

abbrev pub decreases-blanks : goal.decreases-blanks
decreases-blanks l = length l.left
