-- A head that is refused.
use Rattle.std.proofs.Common.{refl, ℕ, List, ap, subst}
use Rattle.gw_frames.specs.model.Requests.{IsJudged, refused}
use Rattle.gw_frames.specs.Judgments.{seen}
use Rattle.gw_frames.specs.declared.inlet.Inlet.{Inlet}
use Rattle.gw_frames.specs.declared.ended.Ended.TheVariants as ends
use Rattle.gw_frames.specs.declared.judgment.Judgment.{Judgment}
use Rattle.gw_frames.proofs.Inlets.{ends_at_head, goes_to_end, head_refused}
use Rattle.gw_frames.proofs.inlet.Inlet.open.Goals as goal

pub returns-in-Refused-clause-goes : goal.returns-in-Refused-clause-goes
returns-in-Refused-clause-goes c =
    goes_to_end c.args.self.now c.end.new.self (ends.Refused c.in-Refused.code) _ (ap (λ (i : Inlet). i.over) c.end.ensures.after) (ap (λ (i : Inlet). i.stage) c.end.ensures.after) c.end.ensures.step (λ more. ends_at_head _ _ (ends.Refused c.in-Refused.code) more c.requires.head refl)
    (λ next over future. head_refused c.args.self.now c.args.length c.in-Refused.code c.requires.head c.requires.whole
    (subst (λ (b : List ℕ). IsJudged b (refused c.in-Refused.code)) c.front.ensures (subst (λ (j : Judgment). IsJudged c.front.result.now (seen j)) c.in-Refused.is c.in_ok-code.ensures)) next over)
