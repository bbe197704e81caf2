use Rattle.std.proofs.Common.{length}
use Rattle.gw_replies.specs.Replies.{Goes}
use Rattle.gw_replies.proofs.reader.ReplyReader.next_open.Given as goal

abbrev pub invariant-heads : goal.invariant-heads
invariant-heads l = Goes l.fn.self l.self

abbrev pub decreases-heads : goal.decreases-heads
decreases-heads l = length l.self.buffer
