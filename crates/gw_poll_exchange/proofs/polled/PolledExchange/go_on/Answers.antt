use Rattle.std.proofs.Common.{arith}
use Rattle.gw_poll_exchange.proofs.Telling.{kept_on, on_then}
use Rattle.gw_poll_exchange.proofs.Staying.{up_then}
use Rattle.gw_poll_exchange.proofs.polled.PolledExchange.go_on.Goals as goal

pub returns-in-Ready-clause-over : goal.returns-in-Ready-clause-over
returns-in-Ready-clause-over g c = λ met stands.
    let o = c.in-Ready.ensures.over met stands in
    record { met' = o.met'; came = o.came; told = on_then met o.met' o.met' _ _ _ o.told (kept_on o.met' _ _ c.close.ensures.kept) }

pub returns-in-Ready-clause-up : goal.returns-in-Ready-clause-up
returns-in-Ready-clause-up g c =
    up_then g.U.PollUpstream g.met.U.PollUpstream.becomes_then _ _ _ c.converse.ensures.up
    (record { becomes = c.close.ensures.goes; unmarked = c.close.ensures.unmarked; same = c.close.ensures.same; later = c.close.ensures.later; waits = omega (arith, c.close.ensures.unwaited) })
