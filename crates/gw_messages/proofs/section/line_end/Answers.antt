-- The next line's end.
use Rattle.std.proofs.Common.{arith, ◌-◌}
use Rattle.gw_messages.proofs.LineEnds.{none_between}
use Rattle.gw_messages.proofs.section.line_end.Goals as goal

pub returns : goal.returns
returns c = record {
  more = omega arith;
  within = omega arith;
  few = omega arith;
  none = λ k after before. none_between c.args.bytes.now c.args.seen (c.min-stop.result - c.args.seen) k after (omega (arith, c.index_of-at.ensures.place));
}
