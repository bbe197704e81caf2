-- The slice goes to the place that the search finds.
use Rattle.std.proofs.Common.{◌∙◌, ap, Ok, Err, rules}
use Rattle.std.specs.Ordering.{nat_cmp, ordering_then}
use Rattle.std.proofs.lemmas.Fn.{always_returns_same}
use Rattle.gw_text.specs.model.Names.{key_order}
use Rattle.gw_text.specs.model.World.{slice_key}
use Rattle.gw_store.specs.ByService.{slice_digest, service_order, put_slice}
use Rattle.gw_store.proofs.Digests.{service_total, placed}
use Rattle.gw_store.proofs.InOrder.{ordered_put, put_standing, put_missing}
use Rattle.gw_store.proofs.part.Part.put.Goals as goal

pub set-requires-clause-order : goal.set-requires-clause-order
set-requires-clause-order c =
    let x = c.args.slice in
    let slices = c.self.inside.slices.items in
    let place = placed x c.digest-digest.result c.key-key.result.now c.as_slice-slices.result.now slices (Ok c.in-Ok.at) c.digest-digest.ensures (c.key-key.ensures.value ∙ ap slice_key c.deref.ensures) c.as_slice-slices.ensures.value c.self.invariant c.in-Ok.ensures.bound
    (c.in-Ok.ensures.position (λ s. ordering_then (nat_cmp (slice_digest s) c.digest-digest.result) (key_order (slice_key s) c.key-key.result.now)) (always_returns_same _ _ _ (λ s r q k. search rules))) in
    rw (← c.self.view_is, put_standing service_order x slices c.in-Ok.at place) (ordered_put service_order service_total x slices c.self.invariant)

pub insert-requires-clause-order : goal.insert-requires-clause-order
insert-requires-clause-order c =
    let x = c.args.slice in
    let slices = c.self.inside.slices.items in
    let place = placed x c.digest-digest.result c.key-key.result.now c.as_slice-slices.result.now slices (Err c.in-Err.at) c.digest-digest.ensures (c.key-key.ensures.value ∙ ap slice_key c.deref.ensures) c.as_slice-slices.ensures.value c.self.invariant c.in-Err.ensures.bound
    (c.in-Err.ensures.position (λ s. ordering_then (nat_cmp (slice_digest s) c.digest-digest.result) (key_order (slice_key s) c.key-key.result.now)) (always_returns_same _ _ _ (λ s r q k. search rules))) in
    rw (← c.self.view_is, put_missing service_order x slices c.in-Err.at place) (ordered_put service_order service_total x slices c.self.invariant)

pub returns-in-Ok-clause-slices : goal.returns-in-Ok-clause-slices
unfolding put_slice
returns-in-Ok-clause-slices c =
    let x = c.args.slice in
    let slices = c.self.inside.slices.items in
    let place = placed x c.digest-digest.result c.key-key.result.now c.as_slice-slices.result.now slices (Ok c.in-Ok.at) c.digest-digest.ensures (c.key-key.ensures.value ∙ ap slice_key c.deref.ensures) c.as_slice-slices.ensures.value c.self.invariant c.in-Ok.ensures.bound
    (c.in-Ok.ensures.position (λ s. ordering_then (nat_cmp (slice_digest s) c.digest-digest.result) (key_order (slice_key s) c.key-key.result.now)) (always_returns_same _ _ _ (λ s r q k. search rules))) in
    rw (c.set.ensures.slices, ← c.self.view_is) (put_standing service_order x slices c.in-Ok.at place)

pub returns-in-Err-clause-slices : goal.returns-in-Err-clause-slices
unfolding put_slice
returns-in-Err-clause-slices c =
    let x = c.args.slice in
    let slices = c.self.inside.slices.items in
    let place = placed x c.digest-digest.result c.key-key.result.now c.as_slice-slices.result.now slices (Err c.in-Err.at) c.digest-digest.ensures (c.key-key.ensures.value ∙ ap slice_key c.deref.ensures) c.as_slice-slices.ensures.value c.self.invariant c.in-Err.ensures.bound
    (c.in-Err.ensures.position (λ s. ordering_then (nat_cmp (slice_digest s) c.digest-digest.result) (key_order (slice_key s) c.key-key.result.now)) (always_returns_same _ _ _ (λ s r q k. search rules))) in
    rw (c.insert.ensures.slices, ← c.self.view_is) (put_missing service_order x slices c.in-Err.at place)
