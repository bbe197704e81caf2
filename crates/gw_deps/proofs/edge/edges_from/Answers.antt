-- Both searches answer by the subjects, and what is between their places is the subject's.
use Rattle.std.proofs.Common.{◌≡◌, ◌∙◌, true, false, ap, drop, rules}
use Rattle.std.proofs.lemmas.List.{take_rest}
use Rattle.std.proofs.lemmas.List.Sorted.{IsPartitionPoint-from_clause}
use Rattle.std.specs.List.Sorted.{IsPartitionPoint}
use Rattle.gw_text.specs.model.Names.{Key}
use Rattle.gw_store.proofs.Namespaces.{parted}
use Rattle.gw_deps.specs.Edges.{of_subject}
use Rattle.gw_deps.proofs.Subjects.{lower, here, lower_falls, here_falls, sorted_drop, high_rest, found_between}
use Rattle.gw_deps.proofs.edge.edges_from.Goals as goal

pub returns : goal.returns
returns c =
    let s : Key = record { namespace = c.args.namespace.now; name = c.args.name.now } in
    let xs = c.as_slice-edges.result.now in
    let order = c.as_slice-edges.ensures.order in
    let i = c.partition_point-first.result in
    let first : IsPartitionPoint (λ e. lower s e ≡ true) (λ e. lower s e ≡ false) xs i =
    IsPartitionPoint-from_clause (lower s) xs i c.partition_point-first.ensures.partitioned (parted (lower s) xs (lower_falls s xs order)) (λ a r q k. search rules) in
    let rest = drop i xs in
    let second : IsPartitionPoint (λ e. here s e ≡ true) (λ e. here s e ≡ false) rest c.partition_point-count.result =
    IsPartitionPoint-from_clause (here s) rest c.partition_point-count.result (rw take_rest at c.partition_point-count.ensures.partitioned)
    (parted (here s) rest (here_falls s rest (sorted_drop s xs i order) (high_rest s xs i first.1))) (λ a r q k. search rules) in
    rw take_rest (found_between s xs i _ c.partition_point-first.ensures.bound (rw take_rest at c.partition_point-count.ensures.bound) first second
    ∙ ap (of_subject s) c.as_slice-edges.ensures.value)
