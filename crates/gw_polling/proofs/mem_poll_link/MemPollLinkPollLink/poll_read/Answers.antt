use Rattle.std.proofs.Common.{length}
use Rattle.gw_polling.proofs.ReadLemmas.{front_gives}
use Rattle.gw_polling.proofs.mem_poll_link.MemPollLinkPollLink.poll_read.Goals as goal

pub returns-clause-gives : goal.returns-clause-gives
returns-clause-gives c = rw (c.give_front.ensures.bytes, c.give_front.ensures.left, ← c.self.view_is) (front_gives (length c.args.buf.now) c.self.inside.pieces.items)
