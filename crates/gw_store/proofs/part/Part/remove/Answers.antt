-- What stands at the place that the search finds is taken away.
use Rattle.std.proofs.Common.{Ok, Err, rules}
use Rattle.std.specs.Ordering.{is_ne, nat_cmp, ordering_then}
use Rattle.std.proofs.lemmas.Fn.{always_returns_same}
use Rattle.std.proofs.lemmas.List.Kept.{IsStrictlySortedBy-filter}
use Rattle.gw_text.specs.model.Names.{key_order}
use Rattle.gw_text.specs.model.World.{slice_key}
use Rattle.gw_store.specs.ByService.{slice_digest, service_order, without}
use Rattle.gw_store.proofs.Digests.{placed}
use Rattle.gw_store.proofs.InOrder.{remove_standing, remove_missing}
use Rattle.gw_store.proofs.part.Part.remove.Goals as goal

pub remove_at-requires-clause-order : goal.remove_at-requires-clause-order
remove_at-requires-clause-order c =
    let x = c.args.slice.now in
    let slices = c.self.inside.slices.items in
    let place = placed x c.slice_digest-digest.result c.key-key.result.now c.as_slice-slices.result.now slices (Ok c.in-Ok.at) c.slice_digest-digest.ensures c.key-key.ensures.value c.as_slice-slices.ensures.value c.self.invariant c.in-Ok.ensures.bound
    (c.in-Ok.ensures.position (λ s. ordering_then (nat_cmp (slice_digest s) c.slice_digest-digest.result) (key_order (slice_key s) c.key-key.result.now)) (always_returns_same _ _ _ (λ s r q k. search rules))) in
    rw (← c.self.view_is, remove_standing service_order x slices c.in-Ok.at place) (IsStrictlySortedBy-filter service_order (λ s. is_ne (service_order s x)) slices c.self.invariant)

pub returns-in-Ok-clause-slices : goal.returns-in-Ok-clause-slices
unfolding without
returns-in-Ok-clause-slices c =
    let x = c.args.slice.now in
    let slices = c.self.inside.slices.items in
    let place = placed x c.slice_digest-digest.result c.key-key.result.now c.as_slice-slices.result.now slices (Ok c.in-Ok.at) c.slice_digest-digest.ensures c.key-key.ensures.value c.as_slice-slices.ensures.value c.self.invariant c.in-Ok.ensures.bound
    (c.in-Ok.ensures.position (λ s. ordering_then (nat_cmp (slice_digest s) c.slice_digest-digest.result) (key_order (slice_key s) c.key-key.result.now)) (always_returns_same _ _ _ (λ s r q k. search rules))) in
    rw (c.remove_at.ensures.slices, ← c.self.view_is) (remove_standing service_order x slices c.in-Ok.at place)

pub returns-in-Err-clause-slices : goal.returns-in-Err-clause-slices
unfolding without
returns-in-Err-clause-slices c =
    let x = c.args.slice.now in
    let slices = c.self.inside.slices.items in
    let place = placed x c.slice_digest-digest.result c.key-key.result.now c.as_slice-slices.result.now slices (Err c.in-Err.field-0) c.slice_digest-digest.ensures c.key-key.ensures.value c.as_slice-slices.ensures.value c.self.invariant c.in-Err.ensures.bound
    (c.in-Err.ensures.position (λ s. ordering_then (nat_cmp (slice_digest s) c.slice_digest-digest.result) (key_order (slice_key s) c.key-key.result.now)) (always_returns_same _ _ _ (λ s r q k. search rules))) in
    rw (← c.self.view_is) (remove_missing service_order x slices c.in-Err.field-0 place)
