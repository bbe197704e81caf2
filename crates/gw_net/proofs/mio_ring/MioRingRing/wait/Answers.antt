-- The number that is given is the next one.
use Rattle.std.proofs.Common.{◌≡◌, ◌∙◌, ◌+◌, Some, ap}
use Rattle.gw_polling.specs.Rings.{woken_number}
use Rattle.gw_polling.proofs.NumberLemmas.{given_more, next_is_new}
use Rattle.gw_net.specs.Real.{RingState}
use Rattle.gw_net.proofs.mio_ring.MioRingRing.wait.Goals as goal

pub returns-in-Some-clause-gives : goal.returns-in-Some-clause-gives
returns-in-Some-clause-gives g c =
    let now = c.args.self.now in
    let before : c.next_stream.new.self ≡ now = c.in_ok-stream.ensures.ok ∙ c.in_ok-look_between.ensures.ok ∙ c.tries.invariant in
    let next : c.give.new.self.next ≡ now.next + 1 = ap (λ (s : RingState). s.next) c.in_ok-give.ensures.ok ∙ ap (λ (s : RingState). s.next + 1) before in
    let number : woken_number c.in_ok-give.field-0 ≡ Some now.next = c.in_ok-give.ensures.number ∙ ap (λ (s : RingState). Some s.next) before in
    rw (next, number) (given_more now.next)

pub returns-in-Some-clause-once : goal.returns-in-Some-clause-once
returns-in-Some-clause-once g c =
    let now = c.args.self.now in
    let before : c.next_stream.new.self ≡ now = c.in_ok-stream.ensures.ok ∙ c.in_ok-look_between.ensures.ok ∙ c.tries.invariant in
    let number : woken_number c.in_ok-give.field-0 ≡ Some now.next = c.in_ok-give.ensures.number ∙ ap (λ (s : RingState). Some s.next) before in
    rw number (next_is_new now.next)
