-- What stands in the leaves so far, and the rest, is all.
use Rattle.std.proofs.Common.{◌≡◌, ◌++◌}
use Rattle.std.specs.Vec.Iter.{into_iter_items}
use Rattle.gw_shared.specs.Sharing.{elements_of, in_pieces}
use Rattle.gw_shared.proofs.leaf.LeafPart.parts_of.Given as goal

abbrev pub invariant-pieces : goal.invariant-pieces
invariant-pieces g l = elements_of l.leaves.items ++ in_pieces (into_iter_items l.piece-iterator) ≡ l.fn.items.items
