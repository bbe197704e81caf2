-- A head or a body that isn't whole.
use Rattle.gw_frames.proofs.Inlets.{body_needs, head_needs}
use Rattle.gw_frames.proofs.inlet.Inlet.waits.Goals as goal

pub returns-in-Part-clause-need : goal.returns-in-Part-clause-need
returns-in-Part-clause-need c = λ is. head_needs c.args.self.now c.in-Head.is c.if-self.false c.in-Part.ensures.found

pub returns-in-Body-clause-need : goal.returns-in-Body-clause-need
returns-in-Body-clause-need c = λ is. body_needs c.args.self.now c.in-Body.field-0 c.in-Body.reading c.in-Body.is c.if-self.false (c.waits.ensures.part is)
