use Rattle.std.proofs.Common.{◌≡◌, length}
use Rattle.std.specs.Cmp.Lexicographic.{slice_cmp}
use Rattle.std.specs.Ordering.{nat_cmp}
use Rattle.gw_messages.specs.model.Values.{lower}
use Rattle.gw_replies.proofs.options.compare.Given as goal

abbrev pub invariant-bytes : goal.invariant-bytes
invariant-bytes l = slice_cmp nat_cmp (lower l.a) (lower l.b) ≡ slice_cmp nat_cmp (lower l.left) (lower l.right)

abbrev pub decreases-bytes : goal.decreases-bytes
decreases-bytes l = length l.left
