-- The worker is lent to the connection, and both are kept where it waits.
use Rattle.std.proofs.Common.{◌∙◌, sym}
use Rattle.gw_link.specs.declared.order.UpstreamCall.{UpstreamCall}
use Rattle.gw_text.specs.model.Addresses.{Socket}
use Rattle.gw_poll.proofs.Lone.{armed_of, comes_of, comes_then, some_and, some_at}
use Rattle.gw_poll.proofs.alone.AloneFuture.poll.Goals as goal

pub poll-requires-clause-door : goal.poll-requires-clause-door
poll-requires-clause-door g c = (some_at _ _ (c.in-Some.worker, c.in-Some.conn) (sym c.take.ensures.value ∙ c.in-Some.is) c.requires).0

pub poll-requires-clause-going : goal.poll-requires-clause-going
poll-requires-clause-going g c = (some_at _ _ (c.in-Some.worker, c.in-Some.conn) (sym c.take.ensures.value ∙ c.in-Some.is) c.requires).1

pub returns-in-Ready-clause-value : goal.returns-in-Ready-clause-value
returns-in-Ready-clause-value g c =
    some_and _ _ (c.in-Some.worker, c.in-Some.conn) (sym c.take.ensures.value ∙ c.in-Some.is) (
      c.poll.ensures.becomes,
      comes_of (g.U.PollUpstream.refuses c.in-Some.conn.up c.poll.new.self.up) c.in-Some.worker c.poll.new.w c.in-Some.conn.course c.poll.new.self.course _ _ _ _ c.in-Ready.result
          c.in-Ready.ensures.goes c.in-Ready.ensures.broke c.in-Ready.ensures.ends,
    )

pub returns-in-Pending-clause-again : goal.returns-in-Pending-clause-again
returns-in-Pending-clause-again g c =
    let before = some_at _ _ (c.in-Some.worker, c.in-Some.conn) (sym c.take.ensures.value ∙ c.in-Some.is) c.requires in
    (rw (c.poll.ensures.door, c.poll.ensures.fixed) before.0, c.in-Pending.ensures.going)

-- What comes of it behind this poll comes of it behind all of them.
pub returns-in-Pending-clause-same : goal.returns-in-Pending-clause-same
returns-in-Pending-clause-same g c = λ x gives.
    let refuses = g.U.PollUpstream.refuses in
    let first = c.in-Some.conn.up in
    let middle = c.poll.new.self.up in
    let last = x.conn.up in
    let still = λ (call : UpstreamCall) (to : Socket) (refused : refuses first middle call to). g.met.U.PollUpstream.refuses_still first middle last call to refused gives.0 in
    let later = λ (call : UpstreamCall) (to : Socket) (refused : refuses middle last call to). g.met.U.PollUpstream.refuses_later first middle last call to c.poll.ensures.becomes refused in
    some_and _ _ (c.in-Some.worker, c.in-Some.conn) (sym c.take.ensures.value ∙ c.in-Some.is) (
      g.met.U.PollUpstream.becomes_then first middle last c.poll.ensures.becomes gives.0,
      comes_then (refuses first middle) (refuses middle last) (refuses first last) c.in-Some.worker c.poll.new.w x.worker c.in-Some.conn.course c.poll.new.self.course x.conn.course _ _ _ _ _ _ x.result
          still later c.poll.ensures.fixed c.in-Pending.ensures.goes gives.1,
    )

pub returns-in-Pending-clause-registered : goal.returns-in-Pending-clause-registered
returns-in-Pending-clause-registered g c = (armed_of _ _ _ _ _ _ _ _ _ _ c.in-Pending.ensures.waits, λ s none. absurd none)
