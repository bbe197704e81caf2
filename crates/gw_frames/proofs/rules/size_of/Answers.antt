-- No body is announced.
use Rattle.std.proofs.Common.{sym, ◌∙◌}
use Rattle.gw_frames.proofs.Framing.{unframed_size}
use Rattle.gw_frames.proofs.rules.size_of.Goals as goal

pub returns-then-not-framed : goal.returns-then-not-framed
returns-then-not-framed c = unframed_size c.args.fields.now (sym c.requires.framed ∙ c.if-not-framed.true)
