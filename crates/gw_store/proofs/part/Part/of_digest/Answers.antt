-- Both searches answer by the digests, and what is between their places is the digest's.
use Rattle.std.proofs.Common.{◌≡◌, true, false, drop, rules}
use Rattle.std.proofs.lemmas.List.{take_rest}
use Rattle.std.proofs.lemmas.List.Sorted.{IsPartitionPoint-from_clause}
use Rattle.std.specs.List.Sorted.{IsPartitionPoint, IsStrictlySortedBy}
use Rattle.gw_store.proofs.Digests.{lower, has_digest, lower_falls, same_falls, sorted_drop, high_rest, found_between}
use Rattle.gw_store.proofs.Namespaces.{parted}
use Rattle.gw_store.specs.ByService.{service_order, of_digest}
use Rattle.std.proofs.Common.{ap, ◌∙◌}
use Rattle.gw_store.proofs.part.Part.of_digest.Goals as goal

pub returns : goal.returns
returns c =
    let d = c.args.digest in
    let xs = c.as_slice-slices.result.now in
    let i = c.partition_point-first.result in
    let order : IsStrictlySortedBy service_order xs = rw c.as_slice-slices.ensures.value c.self.invariant in
    let first : IsPartitionPoint (λ s. lower d s ≡ true) (λ s. lower d s ≡ false) xs i =
    IsPartitionPoint-from_clause (lower d) xs i c.partition_point-first.ensures.partitioned (parted (lower d) xs (lower_falls d xs order)) (λ a r q k. search rules) in
    let rest = drop i xs in
    let second : IsPartitionPoint (λ s. has_digest d s ≡ true) (λ s. has_digest d s ≡ false) rest c.partition_point-count.result =
    IsPartitionPoint-from_clause (has_digest d) rest c.partition_point-count.result (rw take_rest at c.partition_point-count.ensures.partitioned)
    (parted (has_digest d) rest (same_falls d rest (sorted_drop d xs i order) (high_rest d xs i first.1))) (λ a r q k. search rules) in
    rw (take_rest, ← c.self.view_is) (found_between d xs i _ c.partition_point-first.ensures.bound (rw take_rest at c.partition_point-count.ensures.bound) first second
    ∙ ap (of_digest d) c.as_slice-slices.ensures.value)
