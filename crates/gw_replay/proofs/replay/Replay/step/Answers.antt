-- What each step does.
use Rattle.std.proofs.Common.{ℕ, List, [], ◌∷◌, Ok, IfErr, refl, sym, subst}
use Rattle.std.proofs.lemmas.Result.{on_ok_weaker}
use Rattle.gw_script.specs.Seen.{seen_step}
use Rattle.gw_script.specs.declared.step.Step.{Step}
use Rattle.gw_replay.specs.Replays.{Sends, SendsOn, StepDone}
use Rattle.gw_replay.specs.States.{HaltsAt, site_of}
use Rattle.gw_replay.proofs.Stepping.{with_moment, without_moment}
use Rattle.gw_replay.proofs.replay.Replay.step.Goals as goal

pub returns-in_ok-event-in-Event-clause-does : goal.returns-in_ok-event-in-Event-clause-does
returns-in_ok-event-in-Event-clause-does g c =
    with_moment {Q = λ moments s s' text. StepDone (site_of c.args.self.now) c.args.number (seen_step c.args.step) moments s s' text} _ _ c.now.result c.args.self.now c.event.new.self c.now.ensures
    (λ s s' text k done. subst (λ (step : Step). StepDone (site_of c.args.self.now) c.args.number (seen_step step) (c.now.result ∷ []) s s' text) (sym c.in-Event.is) (c.now.result, (refl, done))) c.in_ok-event-in-Event.ensures.does

pub returns-in_ok-publish-in-Publish-clause-does : goal.returns-in_ok-publish-in-Publish-clause-does
returns-in_ok-publish-in-Publish-clause-does g c =
    without_moment {Q = λ moments s s' text. StepDone (site_of c.args.self.now) c.args.number (seen_step c.args.step) moments s s' text} _ c.args.self.now c.publish.new.self
    (λ s s' text k done. subst (λ (step : Step). StepDone (site_of c.args.self.now) c.args.number (seen_step step) [] s s' text) (sym c.in-Publish.is) (refl, done)) c.in_ok-publish-in-Publish.ensures.does

pub returns-in_ok-open-in-Open-clause-does : goal.returns-in_ok-open-in-Open-clause-does
returns-in_ok-open-in-Open-clause-does g c =
    without_moment {Q = λ moments s s' text. StepDone (site_of c.args.self.now) c.args.number (seen_step c.args.step) moments s s' text} _ c.args.self.now c.open.new.self
    (λ s s' text k done. subst (λ (step : Step). StepDone (site_of c.args.self.now) c.args.number (seen_step step) [] s s' text) (sym c.in-Open.is) (refl, done)) c.in_ok-open-in-Open.ensures.does

pub returns-in-Send-clause-does : goal.returns-in-Send-clause-does
returns-in-Send-clause-does g c = on_ok_weaker c.send.result (λ d.
    without_moment {Q = λ moments s s' text. StepDone (site_of c.args.self.now) c.args.number (seen_step c.args.step) moments s s' text} _ c.args.self.now c.send.new.self
    (λ s s' text k done. subst (λ (step : Step). StepDone (site_of c.args.self.now) c.args.number (seen_step step) [] s s' text) (sym c.in-Send.is)
    (refl, subst (λ (bytes : List ℕ). Sends (site_of c.args.self.now) c.args.number c.in-Send.name.now bytes (s.clients c.in-Send.name.now) s s' text) c.as_slice.ensures.value done)) d) c.send.ensures.does

pub returns-in-End-clause-does : goal.returns-in-End-clause-does
returns-in-End-clause-does g c = on_ok_weaker c.send-in-End.result (λ d.
    without_moment {Q = λ moments s s' text. StepDone (site_of c.args.self.now) c.args.number (seen_step c.args.step) moments s s' text} _ c.args.self.now c.send-in-End.new.self
    (λ s s' text k done. subst (λ (step : Step). StepDone (site_of c.args.self.now) c.args.number (seen_step step) [] s s' text) (sym c.in-End.is) (refl, done)) d) c.send-in-End.ensures.does

pub returns-in_ok-answer-in-Answer-clause-does : goal.returns-in_ok-answer-in-Answer-clause-does
returns-in_ok-answer-in-Answer-clause-does g c =
    without_moment {Q = λ moments s s' text. StepDone (site_of c.args.self.now) c.args.number (seen_step c.args.step) moments s s' text} _ c.args.self.now c.answer.new.self
    (λ s s' text k done. subst (λ (step : Step). StepDone (site_of c.args.self.now) c.args.number (seen_step step) [] s s' text) (sym c.in-Answer.is) (refl, done)) c.in_ok-answer-in-Answer.ensures.does

pub returns-in_ok-order-in-Fail-clause-does : goal.returns-in_ok-order-in-Fail-clause-does
returns-in_ok-order-in-Fail-clause-does g c =
    without_moment {Q = λ moments s s' text. StepDone (site_of c.args.self.now) c.args.number (seen_step c.args.step) moments s s' text} _ c.args.self.now c.order.new.self
    (λ s s' text k done. subst (λ (step : Step). StepDone (site_of c.args.self.now) c.args.number (seen_step step) [] s s' text) (sym c.in-Fail.is) (refl, done.0, done.1)) c.in_ok-order-in-Fail.ensures.does

pub returns-in-Send-clause-stops : goal.returns-in-Send-clause-stops
returns-in-Send-clause-stops g c =
    subst (λ (step : Step). IfErr c.send.result (λ stop. HaltsAt stop (λ s. SendsOn (Ok (seen_step step)) s.clients) c.args.self.now c.send.new.self)) (sym c.in-Send.is) c.send.ensures.stops

pub returns-in-End-clause-stops : goal.returns-in-End-clause-stops
returns-in-End-clause-stops g c =
    subst (λ (step : Step). IfErr c.send-in-End.result (λ stop. HaltsAt stop (λ s. SendsOn (Ok (seen_step step)) s.clients) c.args.self.now c.send-in-End.new.self)) (sym c.in-End.is) c.send-in-End.ensures.stops
