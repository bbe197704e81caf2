-- A step, and the steps that were given before it.
use Rattle.std.proofs.Common.{◌≡◌, ℕ, List, [], Option, None, Ok, ap, subst, sym, ◌∙◌}
use Rattle.std.proofs.lemmas.Result.{IfOk-weaker}
use Rattle.gw_frames.specs.model.Requests.{Step}
use Rattle.gw_frames.specs.Inlets.{ended_by, fresh, Goes, IsFewer, IsLast, IsStill, StandsFor, steps_left}
use Rattle.gw_frames.specs.declared.ended.Ended.{Ended}
use Rattle.gw_frames.specs.declared.inlet.Inlet.{Inlet}
use Rattle.gw_frames.proofs.Inlets.{all_given, both_ok, fewer_left, goes_at_head, goes_on, last_again, last_at_head, stands_with}
use Rattle.gw_frames.proofs.inlet.Inlet.next.Goals as goal

same : (i j : Inlet) (bytes : List ℕ) (steps : List Step) → j ≡ i → StandsFor i bytes steps → StandsFor j bytes steps
same i j bytes steps is stands = subst (λ (k : Inlet). StandsFor k bytes steps) (sym is) stands

pub returns-in-Some-clause-stands : goal.returns-in-Some-clause-stands
returns-in-Some-clause-stands c = λ bytes steps stands.
    stands_with c.waits.new.self c.next_of_head.new.self c.in-Some.step bytes steps
    (goes_at_head _ _ c.in-Some.step (rw c.in-Some.is at c.in_ok-step.ensures.heads) (rw c.in-Some.is at c.in_ok-step.ensures.goes))
    (same _ _ bytes steps c.waits.ensures.same stands)

pub returns-in-Some-clause-all : goal.returns-in-Some-clause-all
returns-in-Some-clause-all c = λ bytes steps stands all.
    all_given c.next_of_head.new.self c.in-Some.step bytes _ (rw c.in-Some.is at c.in_ok-step.ensures.need)
    (stands_with c.waits.new.self c.next_of_head.new.self c.in-Some.step bytes steps
    (goes_at_head _ _ c.in-Some.step (rw c.in-Some.is at c.in_ok-step.ensures.heads) (rw c.in-Some.is at c.in_ok-step.ensures.goes))
    (same _ _ bytes steps c.waits.ensures.same stands)) all

pub returns-in-Some-clause-stays : goal.returns-in-Some-clause-stays
returns-in-Some-clause-stays c = λ bytes steps stands.
    last_again c.waits.new.self c.in-Some.step bytes steps (last_at_head c.waits.new.self c.in-Some.step (rw c.in-Some.is at c.in_ok-step.ensures.heads))
    (same _ _ bytes steps c.waits.ensures.same stands)

pub returns-clause-stands : goal.returns-clause-stands
returns-clause-stands c =
    let i = c.waits.new.self in
    let j = c.next_of_head.new.self in
    let k = c.next_of_body.new.self in
    let none : c.next_of_head.result ≡ Ok None = c.in_ok-step.was ∙ ap Ok c.in_default.is in
    let goes : Goes i j [] = rw c.in_default.is at c.in_ok-step.ensures.goes in
    IfOk-weaker c.next_of_body.result (λ step. Goes j k (fresh j.stage step)) _
    (λ step on bytes steps stands. stands_with i k step bytes steps (goes_on i j k step goes (c.next_of_head.ensures.fresh none step) on)
    (same _ _ bytes steps c.waits.ensures.same stands))
    c.next_of_body.ensures.goes

pub returns-clause-all : goal.returns-clause-all
returns-clause-all c =
    let i = c.waits.new.self in
    let j = c.next_of_head.new.self in
    let k = c.next_of_body.new.self in
    let none : c.next_of_head.result ≡ Ok None = c.in_ok-step.was ∙ ap Ok c.in_default.is in
    let goes : Goes i j [] = rw c.in_default.is at c.in_ok-step.ensures.goes in
    both_ok c.next_of_body.result (λ step. Goes j k (fresh j.stage step)) (IsStill k) _
    (λ step on still bytes steps stands all. all_given k step bytes _ still
    (stands_with i k step bytes steps (goes_on i j k step goes (c.next_of_head.ensures.fresh none step) on) (same _ _ bytes steps c.waits.ensures.same stands)) all)
    c.next_of_body.ensures.goes c.next_of_body.ensures.need

pub returns-clause-stays : goal.returns-clause-stays
returns-clause-stays c =
    let none : c.next_of_head.result ≡ Ok None = c.in_ok-step.was ∙ ap Ok c.in_default.is in
    IfOk-weaker c.next_of_body.result (IsLast (ended_by c.next_of_head.new.self.stage)) _
    (λ step last bytes steps stands. last_again c.waits.new.self step bytes steps (subst (λ (e : Option Ended). IsLast e step) (c.next_of_head.ensures.ended none) last)
    (same _ _ bytes steps c.waits.ensures.same stands))
    c.next_of_body.ensures.last

pub returns-in-Some-clause-fewer : goal.returns-in-Some-clause-fewer
returns-in-Some-clause-fewer c = λ bytes steps stands.
    rw c.waits.ensures.same at (fewer_left c.waits.new.self c.next_of_head.new.self c.in-Some.step bytes steps
    (goes_at_head _ _ c.in-Some.step (rw c.in-Some.is at c.in_ok-step.ensures.heads) (rw c.in-Some.is at c.in_ok-step.ensures.goes))
    (last_at_head c.waits.new.self c.in-Some.step (rw c.in-Some.is at c.in_ok-step.ensures.heads))
    (same _ _ bytes steps c.waits.ensures.same stands))

pub returns-clause-fewer : goal.returns-clause-fewer
returns-clause-fewer c =
    let i = c.waits.new.self in
    let j = c.next_of_head.new.self in
    let k = c.next_of_body.new.self in
    let none : c.next_of_head.result ≡ Ok None = c.in_ok-step.was ∙ ap Ok c.in_default.is in
    let goes : Goes i j [] = rw c.in_default.is at c.in_ok-step.ensures.goes in
    both_ok c.next_of_body.result (λ step. Goes j k (fresh j.stage step)) (IsLast (ended_by j.stage)) _
    (λ step on last bytes steps stands. subst (λ (was : Inlet). IsFewer step (steps_left k) (steps_left was)) c.waits.ensures.same (fewer_left i k step bytes steps
    (goes_on i j k step goes (c.next_of_head.ensures.fresh none step) on)
    (subst (λ (e : Option Ended). IsLast e step) (c.next_of_head.ensures.ended none) last)
    (same _ _ bytes steps c.waits.ensures.same stands)))
    c.next_of_body.ensures.goes c.next_of_body.ensures.last
