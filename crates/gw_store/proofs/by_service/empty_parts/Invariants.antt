-- All parts so far hold no slices.
use Rattle.std.proofs.Common.{◌≡◌, ◌≤◌, ◌-◌, [], length, vec_len}
use Rattle.std.specs.List.{AllByRecursion}
use Rattle.gw_store.proofs.by_service.empty_parts.Given as goal

abbrev pub invariant-parts : goal.invariant-parts
invariant-parts l = record {
  few : length l.parts.items ≤ 32;
  empty : AllByRecursion (λ part. part.slices ≡ []) l.parts.items;
}

abbrev pub decreases-parts : goal.decreases-parts
decreases-parts l = 32 - vec_len l.parts
