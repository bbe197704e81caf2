-- Each bucket so far has what belongs there.
use Rattle.std.proofs.Common.{◌≡◌, map}
use Rattle.std.specs.List.{range_with_len}
use Rattle.gw_shared.specs.model.Buckets.{part_of}
use Rattle.gw_shared.proofs.buckets.Buckets.spread.Given as goal

abbrev pub invariant-places : goal.invariant-places
invariant-places g l = l.spread.items ≡ map (part_of l.number l.self) (range_with_len 0 l.place)
