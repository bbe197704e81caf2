use Rattle.gw_polling.proofs.NumberLemmas.{given_more, next_is_new}
use Rattle.gw_polling.proofs.mem_ring.MemRingRing.wait.Goals as goal

pub returns-then-not-is_empty-clause-gives : goal.returns-then-not-is_empty-clause-gives
returns-then-not-is_empty-clause-gives g c = rw (c.in_ok-give.ensures.next, c.in_ok-give.ensures.number) (given_more c.args.self.now.next)

pub returns-then-not-is_empty-clause-once : goal.returns-then-not-is_empty-clause-once
returns-then-not-is_empty-clause-once g c = rw c.in_ok-give.ensures.number (next_is_new c.args.self.now.next)
