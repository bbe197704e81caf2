-- What is cut so far, and the rest, is all.
use Rattle.std.proofs.Common.{◌≡◌, ◌++◌}
use Rattle.std.specs.Vec.Iter.{into_iter_items}
use Rattle.gw_shared.specs.Sharing.{in_pieces}
use Rattle.gw_shared.proofs.cut.cut.Given as goal

abbrev pub invariant-items : goal.invariant-items
invariant-items g l = (in_pieces l.pieces.items ++ l.growing.items) ++ into_iter_items l.item-iterator ≡ l.fn.items.items
