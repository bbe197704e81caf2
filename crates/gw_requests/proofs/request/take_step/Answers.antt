-- What each step adds.
use Rattle.std.proofs.Common.{◌∙◌, ◌∷◌, [], refl}
use Rattle.gw_frames.specs.declared.step.Step.TheVariants as steps
use Rattle.gw_requests.proofs.Requests.{gave_fewer, gave_more, gave_same, gave_last, asks_nothing, says_all}
use Rattle.gw_requests.proofs.request.take_step.Goals as goal

pub returns-in_ok-push-in-Ask-clause-took : goal.returns-in_ok-push-in-Ask-clause-took
returns-in_ok-push-in-Ask-clause-took c = λ bytes gave.
    let so = c.in_ok-request.ensures in (
      rw (c.in_ok-push-in-Ask.ensures.items, c.into_inner.ensures) (gave_more _ _ bytes _ _ (c.in-Ask.request.value ∷ []) (rw c.in-Ask.is refl) so.stays so.stands gave),
      gave_fewer c.args.inlet.now c.next.new.self bytes _ _ (steps.Ask c.in-Ask.request) c.in-Ask.is so.fewer gave,
    )

pub returns-in-Continue-clause-took : goal.returns-in-Continue-clause-took
returns-in-Continue-clause-took c = λ bytes gave.
    let so = c.in_ok-request.ensures in
    (gave_same _ _ bytes _ _ (rw c.in-Continue.is refl) so.stays so.stands gave, gave_fewer c.args.inlet.now c.next.new.self bytes _ _ steps.Continue c.in-Continue.is so.fewer gave)

pub returns-in-Need : goal.returns-in-Need
returns-in-Need c =
    let so = c.in_ok-request.ensures in
    let all = says_all _ c.in-Need.is in
    let over = c.next.ensures.over ∙ c.requires in
    record {
      took = λ bytes gave. gave_last c.args.inlet.now c.next.new.self bytes _ _ (asks_nothing _ all) so.stays so.all all over gave;
      over = over;
    }
