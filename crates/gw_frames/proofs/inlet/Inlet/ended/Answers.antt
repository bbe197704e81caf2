-- How the connection ended.
use Rattle.std.proofs.Common.{sym, ◌∙◌}
use Rattle.gw_frames.proofs.Inlets.{ended_is}
use Rattle.gw_frames.proofs.inlet.Inlet.ended.Goals as goal

pub returns : goal.returns
returns c = λ bytes steps stands. c.ended.ensures ∙ sym (ended_is c.args.self.now bytes steps stands)
