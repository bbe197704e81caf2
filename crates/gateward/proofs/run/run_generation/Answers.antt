-- What a script that was written or run comes to.
use Rattle.std.proofs.Common.{inr}
use Rattle.gateward.proofs.Generating.{finished, starved}
use Rattle.gateward.proofs.run.run_generation.Goals as goal

pub returns-in-Ok-clause-generated : goal.returns-in-Ok-clause-generated
returns-in-Ok-clause-generated g c =
    inr (record { ending = c.in-Ok.output.ending; text = c.in-Ok.output.text; output = c.in-Ok.ensures.output; finishes = c.finish.ensures.finishes })

pub returns-in-Ok-clause-ends : goal.returns-in-Ok-clause-ends
returns-in-Ok-clause-ends g c = finished _ _ _ _ _ _ _ _ _ c.in-Ok.ensures.counted c.finish.ensures.finishes

pub returns-in-Err-clause-ends : goal.returns-in-Err-clause-ends
returns-in-Err-clause-ends g c = starved _ _ _ _ _ c.end.ensures.exit
