-- What is kept so far, and the rest, is all; and each group so far has the width.
use Rattle.std.proofs.Common.{◌≡◌, ◌++◌, length}
use Rattle.std.specs.List.{All}
use Rattle.std.specs.Vec.Iter.{into_iter_items}
use Rattle.gw_shared.specs.Sharing.{elements_of}
use Rattle.gw_shared.proofs.group.groups_of.Given as goal

abbrev pub invariant-buckets : goal.invariant-buckets
invariant-buckets g l = record {
  whole : (elements_of l.groups.items ++ l.growing.items) ++ into_iter_items l.bucket-iterator ≡ l.fn.buckets.items;
  wide : All (λ g. length g ≡ l.width) l.groups.items;
}
