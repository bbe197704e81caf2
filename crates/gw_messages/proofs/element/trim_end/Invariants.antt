use Rattle.std.proofs.Common.{◌≡◌, length, reverse}
use Rattle.httparse.specs.Grammar.{skip_ows}
use Rattle.gw_messages.proofs.element.trim_end.Given as goal

abbrev pub invariant-blanks : goal.invariant-blanks
invariant-blanks l = reverse (skip_ows (reverse l.bytes)) ≡ reverse (skip_ows (reverse l.left))

abbrev pub decreases-blanks : goal.decreases-blanks
decreases-blanks l = length l.left
