-- One line more.
use Rattle.gateward.proofs.output.last_of.Goals as goal

pub lines-preserved : goal.lines-preserved
lines-preserved c = rw c.later-last.ensures (rw (c.in-Some.is, c.first_line.ensures.cut) at c.lines.invariant)

pub returns : goal.returns
returns c = rw c.in_default.is at c.lines.invariant
