-- A head that is too long.
use Rattle.std.proofs.Common.{refl, ap}
use Rattle.gw_frames.specs.declared.inlet.Inlet.{Inlet}
use Rattle.gw_frames.specs.declared.ended.Ended.TheVariants as ends
use Rattle.gw_frames.proofs.Inlets.{ends_at_head, goes_to_end, head_long}
use Rattle.gw_frames.proofs.inlet.Inlet.next_of_head.Goals as goal

pub returns-in-Long-clause-goes : goal.returns-in-Long-clause-goes
returns-in-Long-clause-goes c =
    goes_to_end c.args.self.now c.end.new.self (ends.Refused 431) _ (ap (λ (i : Inlet). i.over) c.end.ensures.after) (ap (λ (i : Inlet). i.stage) c.end.ensures.after) c.end.ensures.step (λ more. ends_at_head _ _ (ends.Refused 431) more c.in-Head.is refl)
    (λ next over future. head_long c.args.self.now c.in-Head.is c.in-Long.ensures.found next over)
