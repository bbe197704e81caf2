-- Both searches answer by the keys, and what is between their places is the namespace's.
use Rattle.std.proofs.Common.{◌≡◌, ◌∙◌, true, false, [], ◌∷◌, ◌++◌, drop, ap, rules, filter}
use Rattle.std.proofs.lemmas.List.{take_rest}
use Rattle.std.proofs.lemmas.List.Sorted.{IsPartitionPoint-from_clause}
use Rattle.std.specs.List.Sorted.{IsPartitionPoint}
use Rattle.gw_text.specs.model.Stored.{IsInKeyOrder}
use Rattle.gw_store.proofs.Namespaces.{before, within, parted, before_falls, within_falls, ordered_drop, ordered_take, high_drop, between, in_by_text}
use Rattle.gw_store.proofs.table.Table.in_namespace.Goals as goal

pub returns-clause-value : goal.returns-clause-value
returns-clause-value g c =
    let key = g.T.Keyed.key in
    let p = c.args.namespace.now ++ 47 ∷ [] in
    let xs = c.as_slice-objects.result.now in
    let i = c.partition_point-first.result in
    let order : IsInKeyOrder key xs = rw c.as_slice-objects.ensures.value c.self.invariant.order in
    let first : IsPartitionPoint (λ y. before key p y ≡ true) (λ y. before key p y ≡ false) xs i =
    IsPartitionPoint-from_clause (before key p) xs i c.partition_point-first.ensures.partitioned (parted (before key p) xs (before_falls key p xs order)) (λ a r q k. search rules) in
    let rest = drop i xs in
    let second : IsPartitionPoint (λ y. within key p y ≡ true) (λ y. within key p y ≡ false) rest c.partition_point-count.result =
    IsPartitionPoint-from_clause (within key p) rest c.partition_point-count.result (rw take_rest at c.partition_point-count.ensures.partitioned) (parted (within key p) rest (within_falls key p rest (ordered_drop key p xs i order) (high_drop key p xs i first.1))) (λ a r q k. search rules) in
    rw (take_rest, ← c.self.view_is) (between key p xs i _ c.partition_point-first.ensures.bound (rw take_rest at c.partition_point-count.ensures.bound) first second
    ∙ (ap (λ stored. filter (within key p) stored) c.as_slice-objects.ensures.value ∙ in_by_text key c.args.namespace.now _ c.self.invariant.keys))

pub returns-clause-order : goal.returns-clause-order
returns-clause-order g c =
    let key = g.T.Keyed.key in
    let p = c.args.namespace.now ++ 47 ∷ [] in
    let order : IsInKeyOrder key c.as_slice-objects.result.now = rw c.as_slice-objects.ensures.value c.self.invariant.order in
    rw take_rest (ordered_take key p _ _ (ordered_drop key p _ _ order))
