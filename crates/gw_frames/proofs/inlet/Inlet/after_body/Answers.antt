-- What a body comes to.
use Rattle.std.proofs.Common.{refl, ℕ, [], ◌∷◌, ap, subst}
use Rattle.gw_messages.specs.model.Bodies.{bad_body}
use Rattle.gw_frames.specs.model.Requests.{a_refusal}
use Rattle.gw_messages.specs.Readings.{IsProgress}
use Rattle.gw_messages.specs.declared.body.Progress.{Progress}
use Rattle.gw_frames.specs.declared.inlet.Inlet.{Inlet}
use Rattle.gw_frames.specs.declared.ended.Ended.TheVariants as ends
use Rattle.gw_frames.proofs.Inlets.{goes_to_end}
use Rattle.gw_frames.proofs.inlet.Inlet.after_body.Goals as goal

pub returns-in-Bad-clause-goes : goal.returns-in-Bad-clause-goes
returns-in-Bad-clause-goes c = λ o r new before is progress.
    let bad = subst (λ (p : Progress). IsProgress r before new c.args.self.now.buffer p) c.in-Bad.is progress in
    goes_to_end _ c.end.new.self (ends.Refused c.fault_code.result) _ (ap (λ (i : Inlet). i.over) c.end.ensures.after) (ap (λ (i : Inlet). i.stage) c.end.ensures.after) c.end.ensures.step (λ more. refl)
    (λ next over future. (bad_body c.in-Bad.fault, bad next, ap (λ (code : ℕ). a_refusal code ∷ []) c.fault_code.ensures))

pub returns-in-Part-clause-goes : goal.returns-in-Part-clause-goes
returns-in-Part-clause-goes c = λ o r new before is progress.
    let part = subst (λ (p : Progress). IsProgress r before new c.args.self.now.buffer p) c.in-Part.is progress in
    c.after_no_body.ensures.goes o r new before is part.0 part.1

pub returns-in-Whole-clause-goes : goal.returns-in-Whole-clause-goes
returns-in-Whole-clause-goes c = λ o r new before is progress.
    c.ask.ensures.goes o r new before is (subst (λ (p : Progress). IsProgress r before new c.args.self.now.buffer p) c.in-Whole.is progress)
