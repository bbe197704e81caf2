-- The request that a body makes whole.
use Rattle.std.proofs.Common.{◌≡◌, ap, ◌∙◌, refl, arith}
use Rattle.gw_frames.specs.model.Requests.{end_behind, Opening, whole_request}
use Rattle.gw_frames.specs.Inlets.{stage_behind}
use Rattle.gw_frames.proofs.Inlets.{goes_to_ask}
use Rattle.gw_frames.proofs.inlet.Inlet.ask.Goals as goal

pub returns-in-Body-clause-goes : goal.returns-in-Body-clause-goes
returns-in-Body-clause-goes c = λ o r new before is comes.
    let value = c.replace.ensures.value in
    let body = c.in-Body.is in
    let same : c.in-Body.opening ≡ o = cc in
    let request : c.whole.result.value ≡ whole_request o c.args.content.items = c.whole.ensures ∙ ap (λ (p : Opening). whole_request p c.args.content.items) same in
    let stage : c.replace.new.dest ≡ stage_behind (end_behind c.saturating_add-number.result o.request) = c.replace.ensures.after ∙ c.stage_behind-stage.ensures o new is in
    goes_to_ask c.args.self.now _ o r before c.args.content.items c.whole.result.value request c.saturating_add-number.result (λ lt. omega (arith, c.saturating_add-number.ensures)) comes refl refl refl _ refl stage
