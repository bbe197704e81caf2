use Rattle.std.proofs.Common.{ap}
use Rattle.gw_link.specs.Upstreams.{stays}
use Rattle.gw_polling.specs.PollMemory.{PollUpstreamState}
use Rattle.gw_polling.proofs.mem_poll_upstream.MemPollUpstreamPollUpstream.poll_send.Goals as goal

pub returns-then-meets_mark-clause-goes : goal.returns-then-meets_mark-clause-goes
returns-then-meets_mark-clause-goes c = stays (ap (λ (u : PollUpstreamState). u.up) c.self.view_is)
