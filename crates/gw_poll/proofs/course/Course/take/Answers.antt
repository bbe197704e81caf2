-- A piece is taken.
use Rattle.std.proofs.Common.{◌∙◌}
use Rattle.gw_poll.proofs.Keeping.{hungry_at, settled_of}
use Rattle.gw_poll.proofs.course.Course.take.Goals as goal

pub feed-requires : goal.feed-requires
feed-requires c = (hungry_at c.args.self.now c.requires.going.0 c.requires.going.1 c.requires.reading).1.0

pub returns-in-Ok-clause-going : goal.returns-in-Ok-clause-going
returns-in-Ok-clause-going c = λ bytes going. record {
  fed = c.in-Ok.ensures.bytes bytes going.fed;
  at = settled_of _ (c.feed.ensures.stage ∙ (hungry_at c.args.self.now bytes going c.requires.reading).0);
}
