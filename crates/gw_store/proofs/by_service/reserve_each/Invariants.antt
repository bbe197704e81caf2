-- The parts so far have room, and all parts have their slices.
use Rattle.std.proofs.Common.{◌≡◌, ◌<◌, ◌≤◌, ◌-◌, length, map, take}
use Rattle.std.specs.List.{AllByRecursion}
use Rattle.gw_store.proofs.by_service.reserve_each.Given as goal

abbrev pub invariant-parts : goal.invariant-parts
invariant-parts l = record {
  slices : map (λ part. part.slices) l.parts.items ≡ map (λ part. part.slices) l.fn.parts.items;
  within : l.number ≤ length l.parts.items;
  room : AllByRecursion (λ part. 0 < part.spare) (take l.number l.parts.items);
}

abbrev pub decreases-parts : goal.decreases-parts
decreases-parts l = length l.parts.items - l.number
