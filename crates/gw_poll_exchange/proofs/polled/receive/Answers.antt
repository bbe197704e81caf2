-- Each piece that is received.
use Rattle.std.proofs.Common.{◌∙◌, ◌+◌, ◌++◌, Ok, Err, List, ℕ, ap, take, length-append, rules, arith, refl, is_some}
use Rattle.std.proofs.lemmas.List.{length-take-le}
use Rattle.gw_exchange.specs.declared.fault.ExchangeFault.TheVariants.{Backend, NoMemory}
use Rattle.gw_link.specs.declared.order.UpstreamCall.TheVariants.{Receive}
use Rattle.gw_exchange.proofs.Ending.{at_socket, comes_fault, no_call, none_refused}
use Rattle.gw_exchange.proofs.Limits.{byte_fault}
use Rattle.gw_exchange.proofs.Receiving.{few_on}
use Rattle.gw_poll_exchange.proofs.Reading.{begins, reads_failed, reads_on, reads_to, reads_waits}
use Rattle.gw_poll_exchange.proofs.Staying.{up_self, up_then}
use Rattle.gw_poll_exchange.proofs.polled.receive.Goals as goal

pub pieces-init : goal.pieces-init
pieces-init g c = record {
  so_far = λ head given reads. begins c.args.reader.now head given _ reads;
  few = search rules;
  size = refl;
  at = refl;
  up = up_self g.U.PollUpstream g.met.U.PollUpstream.becomes_self _;
  task = λ fact holds. holds;
}

pub poll_receive-requires-clause-connected : goal.poll_receive-requires-clause-connected
poll_receive-requires-clause-connected g c = ap is_some c.pieces.invariant.at ∙ c.requires.connected

pub step_of-requires : goal.step_of-requires
step_of-requires g c = (c.pieces.invariant.so_far c.requires.begun.0 c.requires.begun.1.0 c.requires.begun.1.1).0.reads.unended

pub returns-in-Ready-Err-clause-over : goal.returns-in-Ready-Err-clause-over
returns-in-Ready-Err-clause-over g c = λ head given reads.
    reads_failed _ head given _ _ _ _ (c.pieces.invariant.so_far head given reads) (rw c.in-Ready-Err.field-0-is at c.in-Ready-Err.ensures.kept)

pub returns-in-Ready-Err-clause-refused : goal.returns-in-Ready-Err-clause-refused
returns-in-Ready-Err-clause-refused g c = λ to at.
    g.met.U.PollUpstream.refuses_later c.args.up.now c.pieces.up c.poll_receive.new.self Receive to c.pieces.invariant.up.becomes
    (at_socket (g.U.PollUpstream.refuses c.pieces.up c.poll_receive.new.self Receive) (g.U.PollUpstream.at c.pieces.up) to (c.pieces.invariant.at ∙ at) (rw c.in-Ready-Err.field-0-is at c.in-Ready-Err.ensures.refused))

pub returns-in-Pending-clause-on : goal.returns-in-Pending-clause-on
returns-in-Pending-clause-on g c = λ head given reads.
    reads_waits _ head given _ _ _ _ (c.pieces.invariant.so_far head given reads) c.in-Pending.ensures.kept

pub returns-in-Err-clause-over : goal.returns-in-Err-clause-over
returns-in-Err-clause-over g c = λ head given reads.
    let within = rw c.in-Ready-Ok.field-0-is at c.in-Ready-Ok.ensures.within in
    let size = length-take-le c.in-Ready-Ok.size c.poll_receive.new.buf within in
    reads_to _ head given _ (take c.in-Ready-Ok.size c.poll_receive.new.buf) _ _ _ (Err NoMemory) (c.pieces.invariant.so_far head given reads) (rw c.in-Ready-Ok.field-0-is at c.in-Ready-Ok.ensures.receives)
    (omega (arith, size, within, c.poll_receive.auto.buf, c.pieces.invariant.size, c.requires.few)) (tt {0})

pub returns-in-Ok-Done-clause-over : goal.returns-in-Ok-Done-clause-over
returns-in-Ok-Done-clause-over g c = λ head given reads.
    let i = c.pieces.invariant.so_far head given reads in
    let within = rw c.in-Ready-Ok.field-0-is at c.in-Ready-Ok.ensures.within in
    let size = length-take-le c.in-Ready-Ok.size c.poll_receive.new.buf within in
    rw c.into_inner.ensures (reads_to _ head given _ (take c.in-Ready-Ok.size c.poll_receive.new.buf) _ _ _ (Ok c.in-Ok-Done.response.value) i (rw c.in-Ready-Ok.field-0-is at c.in-Ready-Ok.ensures.receives)
    (omega (arith, size, within, c.poll_receive.auto.buf, c.pieces.invariant.size, c.requires.few))
    (rw c.in-Ok-Done.field-0-is at (c.in-Ok-Done.ensures.settles head (given ++ i.0.more) i.0.reads.stands)))

pub returns-in-Ok-Fault-clause-over : goal.returns-in-Ok-Fault-clause-over
returns-in-Ok-Fault-clause-over g c = λ head given reads.
    let i = c.pieces.invariant.so_far head given reads in
    let within = rw c.in-Ready-Ok.field-0-is at c.in-Ready-Ok.ensures.within in
    let size = length-take-le c.in-Ready-Ok.size c.poll_receive.new.buf within in
    let answer = rw c.in-Ok-Fault.field-0-is at (c.in-Ok-Fault.ensures.answers head (given ++ i.0.more) i.0.reads.stands) in
    let settled = rw c.in-Ok-Fault.field-0-is at (c.in-Ok-Fault.ensures.settles head (given ++ i.0.more) i.0.reads.stands) in
    reads_to _ head given _ (take c.in-Ready-Ok.size c.poll_receive.new.buf) _ _ _ (Err (Backend c.in-Ok-Fault.fault)) i (rw c.in-Ready-Ok.field-0-is at c.in-Ready-Ok.ensures.receives)
    (omega (arith, size, within, c.poll_receive.auto.buf, c.pieces.invariant.size, c.requires.few))
    (comes_fault _ _ _ _ (byte_fault answer _ refl) settled)

pub returns-in-Ok-Fault-clause-cause : goal.returns-in-Ok-Fault-clause-cause
returns-in-Ok-Fault-clause-cause g c =
    let i = c.pieces.invariant.so_far c.requires.begun.0 c.requires.begun.1.0 c.requires.begun.1.1 in
    let answer = rw c.in-Ok-Fault.field-0-is at (c.in-Ok-Fault.ensures.answers c.requires.begun.0 (c.requires.begun.1.0 ++ i.0.more) i.0.reads.stands) in
    λ is. absurd (no_call _ (byte_fault answer _ refl) is)

pub returns-in-Ok-Fault-clause-refused : goal.returns-in-Ok-Fault-clause-refused
returns-in-Ok-Fault-clause-refused g c =
    let i = c.pieces.invariant.so_far c.requires.begun.0 c.requires.begun.1.0 c.requires.begun.1.1 in
    let answer = rw c.in-Ok-Fault.field-0-is at (c.in-Ok-Fault.ensures.answers c.requires.begun.0 (c.requires.begun.1.0 ++ i.0.more) i.0.reads.stands) in
    λ to at. none_refused (g.U.PollUpstream.refuses c.args.up.now c.poll_receive.new.self) to c.in-Ok-Fault.fault (byte_fault answer _ refl)

pub pieces-smaller : goal.pieces-smaller
pieces-smaller g c =
    let i = c.pieces.invariant.so_far c.requires.begun.0 c.requires.begun.1.0 c.requires.begun.1.1 in
    let within = rw c.in-Ready-Ok.field-0-is at c.in-Ready-Ok.ensures.within in
    let size = length-take-le c.in-Ready-Ok.size c.poll_receive.new.buf within in
    let need = rw c.in-Ok-Need.field-0-is at (c.in-Ok-Need.ensures.answers c.requires.begun.0 (c.requires.begun.1.0 ++ i.0.more) i.0.reads.stands) in
    let few = few_on _ (c.requires.begun.1.0 ++ i.0.more) (take c.in-Ready-Ok.size c.poll_receive.new.buf) need in
    omega (arith, size, few.0, c.pieces.invariant.few)

pub pieces-preserved : goal.pieces-preserved
pieces-preserved g c =
    let begun = c.requires.begun in
    let first = c.pieces.invariant.so_far begun.0 begun.1.0 begun.1.1 in
    let piece : List ℕ = take c.in-Ready-Ok.size c.poll_receive.new.buf in
    let within = rw c.in-Ready-Ok.field-0-is at c.in-Ready-Ok.ensures.within in
    let size = length-take-le c.in-Ready-Ok.size c.poll_receive.new.buf within in
    let few = few_on _ (begun.1.0 ++ first.0.more) piece (rw c.in-Ok-Need.field-0-is at (c.in-Ok-Need.ensures.answers begun.0 (begun.1.0 ++ first.0.more) first.0.reads.stands)) in
    record {
      so_far = λ head given reads.
          let i = c.pieces.invariant.so_far head given reads in
          let need = rw c.in-Ok-Need.field-0-is at (c.in-Ok-Need.ensures.answers head (given ++ i.0.more) i.0.reads.stands) in
          let r = reads_on c.pieces.reader c.step_of.new.reader head given c.pieces.given piece _ _ _ i
          (c.step_of.ensures.stands (c.in-Ok-Need.is ∙ ap Ok c.in-Ok-Need.field-0-is) head (given ++ i.0.more) i.0.reads.stands)
          c.in-Ok-Need.ensures.over need (rw c.in-Ready-Ok.field-0-is at c.in-Ready-Ok.ensures.receives) in
          (r.0, omega (arith, size, r.1));
      few = omega (arith, size, few.1, first.1, length-append (begun.1.0 ++ first.0.more) piece, length-append begun.1.0 first.0.more);
      size = c.poll_receive.auto.buf ∙ c.pieces.invariant.size;
      at = c.poll_receive.ensures.stays ∙ c.pieces.invariant.at;
      up = up_then g.U.PollUpstream g.met.U.PollUpstream.becomes_then _ _ _ c.pieces.invariant.up
          (record { becomes = c.poll_receive.ensures.goes; unmarked = c.poll_receive.ensures.unmarked; same = c.poll_receive.ensures.same; later = c.poll_receive.ensures.counts.later; waits = c.poll_receive.ensures.waits.later });
      task = λ fact holds. c.poll_receive.ensures.task fact (c.pieces.invariant.task fact holds);
    }

pub returns-in-Ready-Err-clause-up : goal.returns-in-Ready-Err-clause-up
returns-in-Ready-Err-clause-up g c =
    up_then g.U.PollUpstream g.met.U.PollUpstream.becomes_then _ _ _ c.pieces.invariant.up
    (record { becomes = c.poll_receive.ensures.goes; unmarked = c.poll_receive.ensures.unmarked; same = c.poll_receive.ensures.same; later = c.poll_receive.ensures.counts.later; waits = c.poll_receive.ensures.waits.later })

pub returns-in-Pending-clause-up : goal.returns-in-Pending-clause-up
returns-in-Pending-clause-up g c =
    up_then g.U.PollUpstream g.met.U.PollUpstream.becomes_then _ _ _ c.pieces.invariant.up
    (record { becomes = c.poll_receive.ensures.goes; unmarked = c.poll_receive.ensures.unmarked; same = c.poll_receive.ensures.same; later = c.poll_receive.ensures.counts.later; waits = c.poll_receive.ensures.waits.later })

pub returns-in-Err-clause-up : goal.returns-in-Err-clause-up
returns-in-Err-clause-up g c =
    up_then g.U.PollUpstream g.met.U.PollUpstream.becomes_then _ _ _ c.pieces.invariant.up
    (record { becomes = c.poll_receive.ensures.goes; unmarked = c.poll_receive.ensures.unmarked; same = c.poll_receive.ensures.same; later = c.poll_receive.ensures.counts.later; waits = c.poll_receive.ensures.waits.later })

pub returns-in-Ok-Done-clause-up : goal.returns-in-Ok-Done-clause-up
returns-in-Ok-Done-clause-up g c =
    up_then g.U.PollUpstream g.met.U.PollUpstream.becomes_then _ _ _ c.pieces.invariant.up
    (record { becomes = c.poll_receive.ensures.goes; unmarked = c.poll_receive.ensures.unmarked; same = c.poll_receive.ensures.same; later = c.poll_receive.ensures.counts.later; waits = c.poll_receive.ensures.waits.later })

pub returns-in-Ok-Fault-clause-up : goal.returns-in-Ok-Fault-clause-up
returns-in-Ok-Fault-clause-up g c =
    up_then g.U.PollUpstream g.met.U.PollUpstream.becomes_then _ _ _ c.pieces.invariant.up
    (record { becomes = c.poll_receive.ensures.goes; unmarked = c.poll_receive.ensures.unmarked; same = c.poll_receive.ensures.same; later = c.poll_receive.ensures.counts.later; waits = c.poll_receive.ensures.waits.later })
