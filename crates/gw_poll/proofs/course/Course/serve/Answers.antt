-- One step more.
use Rattle.std.proofs.Common.{◌≡◌, ◌∙◌, ℕ, Some, Ok, ap, refl, subst}
use Rattle.futures.specs.declared.task.Poll.TheVariants.{Ready}
use Rattle.gw_link.specs.declared.order.UpstreamCall.{UpstreamCall}
use Rattle.gw_text.specs.model.Addresses.{Socket}
use Rattle.gw_worker.proofs.Going.{still_at}
use Rattle.gw_worker.proofs.Staying.{pass_self, pass_then}
use Rattle.gw_worker.specs.Faults.{CountsRefused}
use Rattle.gw_worker.specs.declared.serve.Flow.{Flow}
use Rattle.gw_worker.specs.declared.serve.Flow.TheVariants.{More}
use Rattle.gw_poll.proofs.Going.{gives_up_then, goes_self, goes_then}
use Rattle.gw_poll.proofs.Staying.{link_self, link_then}
use Rattle.gw_poll_exchange.proofs.Staying.{up_self, up_then}
use Rattle.gw_poll.proofs.Waiting.{cause_since, either_map, waited_since}
use Rattle.gw_poll.proofs.course.Course.serve.Goals as goal

pub turns-init : goal.turns-init
turns-init g c = record {
  goes = λ p h at f. goes_self (g.U.PollUpstream.refuses c.args.up.now c.args.up.now) p c.args.w.now c.args.self.now h _ _ f;
  going = λ bytes going. going;
  held = c.requires.going.1;
  over = refl;
  pass = pass_self _;
  refused = refl;
  link = link_self g.K.PollLink _;
  up = up_self g.U.PollUpstream g.met.U.PollUpstream.becomes_self _;
  task = λ fact holds. holds;
  door = refl;
}

pub turn-requires-clause-going : goal.turn-requires-clause-going
turn-requires-clause-going g c = ((c.requires.going.0.0, c.turns.invariant.going c.requires.going.0.0 c.requires.going.0.1), c.turns.invariant.held)

pub returns-in-Pending-clause-goes : goal.returns-in-Pending-clause-goes
returns-in-Pending-clause-goes g c = λ p h at f.
    let refuses = g.U.PollUpstream.refuses in
    let first = c.args.up.now in
    let middle = c.turns.up in
    let last = c.turn.new.up in
    let still = λ (call : UpstreamCall) (to : Socket) (refused : refuses first middle call to). g.met.U.PollUpstream.refuses_still first middle last call to refused c.turn.ensures.up.becomes in
    let later = λ (call : UpstreamCall) (to : Socket) (refused : refuses middle last call to). g.met.U.PollUpstream.refuses_later first middle last call to c.turns.invariant.up.becomes refused in
    let t = c.turns.invariant.goes p h at f in
    goes_then (refuses first middle) (refuses middle last) (refuses first last) p c.args.w.now c.turns.w c.turn.new.w c.turns.self c.turn.new.self h _ _ _ _ _ _ still later t
    (c.in-Pending.ensures.goes p t.h' (still_at p c.args.w.now c.turns.w c.turns.invariant.pass.fixed at) t.follows)

pub returns-in-Ready-Ok-Some-clause-goes : goal.returns-in-Ready-Ok-Some-clause-goes
returns-in-Ready-Ok-Some-clause-goes g c = λ p h at f.
    let refuses = g.U.PollUpstream.refuses in
    let first = c.args.up.now in
    let middle = c.turns.up in
    let last = c.turn.new.up in
    let still = λ (call : UpstreamCall) (to : Socket) (refused : refuses first middle call to). g.met.U.PollUpstream.refuses_still first middle last call to refused c.turn.ensures.up.becomes in
    let later = λ (call : UpstreamCall) (to : Socket) (refused : refuses middle last call to). g.met.U.PollUpstream.refuses_later first middle last call to c.turns.invariant.up.becomes refused in
    let t = c.turns.invariant.goes p h at f in
    goes_then (refuses first middle) (refuses middle last) (refuses first last) p c.args.w.now c.turns.w c.turn.new.w c.turns.self c.turn.new.self h _ _ _ _ _ _ still later t
    ((rw c.in-Ready-Ok-Some.field-0-is at c.in-Ready-Ok-Some.ensures.goes) p t.h' (still_at p c.args.w.now c.turns.w c.turns.invariant.pass.fixed at) t.follows)

pub returns-in-Ready-Err-clause-broke : goal.returns-in-Ready-Err-clause-broke
returns-in-Ready-Err-clause-broke g c = λ p h at f.
    let refuses = g.U.PollUpstream.refuses in
    let first = c.args.up.now in
    let middle = c.turns.up in
    let last = c.turn.new.up in
    let still = λ (call : UpstreamCall) (to : Socket) (refused : refuses first middle call to). g.met.U.PollUpstream.refuses_still first middle last call to refused c.turn.ensures.up.becomes in
    let later = λ (call : UpstreamCall) (to : Socket) (refused : refuses middle last call to). g.met.U.PollUpstream.refuses_later first middle last call to c.turns.invariant.up.becomes refused in
    let t = c.turns.invariant.goes p h at f in
    gives_up_then (refuses first middle) (refuses middle last) (refuses first last) p c.args.w.now c.turns.w c.turn.new.w c.turns.self c.turn.new.self h _ _ _ _ _ _ still later t
    ((rw c.in-Ready-Err.field-0-is at c.in-Ready-Err.ensures.broke) p t.h' (still_at p c.args.w.now c.turns.w c.turns.invariant.pass.fixed at) t.follows)

pub returns-in-Ready-Err-clause-cause : goal.returns-in-Ready-Err-clause-cause
returns-in-Ready-Err-clause-cause g c =
    cause_since _ _ _ c.in-Ready-Err.fault c.turns.invariant.link.later (rw c.in-Ready-Err.field-0-is at c.in-Ready-Err.ensures.cause)

pub returns-in-Pending-clause-waits : goal.returns-in-Pending-clause-waits
returns-in-Pending-clause-waits g c =
    either_map (waited_since _ _ _ _ _ c.turns.invariant.link.write_waits) (waited_since _ _ _ _ _ c.turns.invariant.up.waits) c.in-Pending.ensures.waits

pub returns-in-Pending-clause-ready : goal.returns-in-Pending-clause-ready
returns-in-Pending-clause-ready g c = λ none up_none. c.in-Pending.ensures.ready (c.turns.invariant.link.unmarked none) (c.turns.invariant.up.unmarked up_none)

pub turns-smaller : goal.turns-smaller
turns-smaller g c =
    c.turn.ensures.fewer (c.in-Ready-Ok-None.is ∙ ap Ready (c.in-Ready-Ok-None.field-0-is ∙ ap Ok c.in-Ready-Ok-None.field-0-0-is)) c.requires.going.0.0 (c.turns.invariant.going c.requires.going.0.0 c.requires.going.0.1)

pub turns-preserved : goal.turns-preserved
turns-preserved g c =
    let refuses = g.U.PollUpstream.refuses in
    let first = c.args.up.now in
    let middle = c.turns.up in
    let last = c.turn.new.up in
    let i = c.turns.invariant in
    let still = λ (call : UpstreamCall) (to : Socket) (refused : refuses first middle call to). g.met.U.PollUpstream.refuses_still first middle last call to refused c.turn.ensures.up.becomes in
    let later = λ (call : UpstreamCall) (to : Socket) (refused : refuses middle last call to). g.met.U.PollUpstream.refuses_later first middle last call to i.up.becomes refused in
    record {
      goes = λ p h at f.
          let t = i.goes p h at f in
          goes_then (refuses first middle) (refuses middle last) (refuses first last) p c.args.w.now c.turns.w c.turn.new.w c.turns.self c.turn.new.self h _ _ _ _ _ _ still later t
          ((rw c.in-Ready-Ok-None.field-0-is at c.in-Ready-Ok-None.ensures.goes) p t.h' (still_at p c.args.w.now c.turns.w i.pass.fixed at) t.follows);
      going = λ bytes going. (rw c.in-Ready-Ok-None.field-0-is at c.in-Ready-Ok-None.ensures.going) bytes (i.going bytes going);
      held = rw c.in-Ready-Ok-None.field-0-is at c.in-Ready-Ok-None.ensures.held;
      over = c.turn.ensures.over ∙ i.over;
      pass = pass_then _ _ _ i.pass c.turn.ensures.pass;
      link = link_then g.K.PollLink _ _ _ i.link c.turn.ensures.link;
      up = up_then g.U.PollUpstream g.met.U.PollUpstream.becomes_then _ _ _ i.up c.turn.ensures.up;
      refused = (rw c.in-Ready-Ok-None.field-0-is at c.in-Ready-Ok-None.ensures.refused) ∙ i.refused;
      task = λ fact holds. c.turn.ensures.task fact (i.task fact holds);
      door = c.turn.ensures.door ∙ i.door;
    }

pub returns-in-Ready-Ok-Some-clause-more : goal.returns-in-Ready-Ok-Some-clause-more
returns-in-Ready-Ok-Some-clause-more g c = λ is.
    let more : c.in-Ready-Ok-Some.flow ≡ More = cc is in
    c.turn.ensures.more (c.in-Ready-Ok-Some.is ∙ ap Ready (c.in-Ready-Ok-Some.field-0-is ∙ ap Ok (c.in-Ready-Ok-Some.field-0-0-is ∙ ap Some more)))

pub returns-in-Ready-Ok-Some-clause-ended : goal.returns-in-Ready-Ok-Some-clause-ended
returns-in-Ready-Ok-Some-clause-ended g c = λ why is. (rw c.in-Ready-Ok-Some.field-0-is at c.in-Ready-Ok-Some.ensures.ended) why (c.in-Ready-Ok-Some.field-0-0-is ∙ ap Some is)

pub returns-in-Ready-Ok-Some-clause-going : goal.returns-in-Ready-Ok-Some-clause-going
returns-in-Ready-Ok-Some-clause-going g c = λ bytes going. (rw c.in-Ready-Ok-Some.field-0-is at c.in-Ready-Ok-Some.ensures.going) bytes (c.turns.invariant.going bytes going)

pub returns-in-Ready-Err-clause-refused : goal.returns-in-Ready-Err-clause-refused
returns-in-Ready-Err-clause-refused g c =
    subst (λ (n : ℕ). CountsRefused c.in-Ready-Err.fault n c.turn.new.w.pass.refused) c.turns.invariant.refused (rw c.in-Ready-Err.field-0-is at c.in-Ready-Err.ensures.refused)

pub returns-in-Pending-clause-going : goal.returns-in-Pending-clause-going
returns-in-Pending-clause-going g c = λ bytes going. c.in-Pending.ensures.going bytes (c.turns.invariant.going bytes going)

pub returns-in-Ready-Ok-Some-clause-pass : goal.returns-in-Ready-Ok-Some-clause-pass
returns-in-Ready-Ok-Some-clause-pass g c = pass_then _ _ _ c.turns.invariant.pass c.turn.ensures.pass

pub returns-in-Ready-Ok-Some-clause-link : goal.returns-in-Ready-Ok-Some-clause-link
returns-in-Ready-Ok-Some-clause-link g c = link_then g.K.PollLink _ _ _ c.turns.invariant.link c.turn.ensures.link

pub returns-in-Ready-Ok-Some-clause-up : goal.returns-in-Ready-Ok-Some-clause-up
returns-in-Ready-Ok-Some-clause-up g c = up_then g.U.PollUpstream g.met.U.PollUpstream.becomes_then _ _ _ c.turns.invariant.up c.turn.ensures.up

pub returns-in-Ready-Err-clause-pass : goal.returns-in-Ready-Err-clause-pass
returns-in-Ready-Err-clause-pass g c = pass_then _ _ _ c.turns.invariant.pass c.turn.ensures.pass

pub returns-in-Ready-Err-clause-link : goal.returns-in-Ready-Err-clause-link
returns-in-Ready-Err-clause-link g c = link_then g.K.PollLink _ _ _ c.turns.invariant.link c.turn.ensures.link

pub returns-in-Ready-Err-clause-up : goal.returns-in-Ready-Err-clause-up
returns-in-Ready-Err-clause-up g c = up_then g.U.PollUpstream g.met.U.PollUpstream.becomes_then _ _ _ c.turns.invariant.up c.turn.ensures.up

pub returns-in-Pending-clause-pass : goal.returns-in-Pending-clause-pass
returns-in-Pending-clause-pass g c = pass_then _ _ _ c.turns.invariant.pass c.turn.ensures.pass

pub returns-in-Pending-clause-link : goal.returns-in-Pending-clause-link
returns-in-Pending-clause-link g c = link_then g.K.PollLink _ _ _ c.turns.invariant.link c.turn.ensures.link

pub returns-in-Pending-clause-up : goal.returns-in-Pending-clause-up
returns-in-Pending-clause-up g c = up_then g.U.PollUpstream g.met.U.PollUpstream.becomes_then _ _ _ c.turns.invariant.up c.turn.ensures.up
