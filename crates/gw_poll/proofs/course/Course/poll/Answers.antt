-- Bytes are read, and what they give is served.
use Rattle.std.proofs.Common.{◌∙◌, ◌++◌, [], ℕ, List, Ok, length-append, append-nil, append_assoc, inl, inr, ap, refl, sym, subst, arith}
use Rattle.futures.specs.declared.task.Poll.TheVariants.{Ready}
use Rattle.gw_frames.specs.Inlets.{is_over}
use Rattle.gw_link.proofs.FaultLemmas.{HasRisen-then}
use Rattle.gw_link.proofs.KeptLemmas.{keeps_then}
use Rattle.gw_link.specs.declared.order.UpstreamCall.{UpstreamCall}
use Rattle.gw_text.specs.model.Addresses.{Socket}
use Rattle.gw_worker.proofs.Going.{still_at}
use Rattle.gw_worker.proofs.Staying.{pass_self, pass_then}
use Rattle.gw_worker.specs.Faults.{CountsRefused}
use Rattle.gw_poll.proofs.Going.{gives_up_then, goes_self, goes_then, none_failed}
use Rattle.gw_poll.proofs.Keeping.{hungry_at, not_refused}
use Rattle.gw_poll.proofs.Staying.{goes_unread, link_goes_then, link_self}
use Rattle.gw_poll_exchange.proofs.Staying.{up_self, up_then}
use Rattle.gw_poll.proofs.Stepping.{session_ended}
use Rattle.gw_poll.proofs.Waiting.{cause_since, either_map, fewer_left, idle_reading, neither, none_read, over_still, stands_end, still_session, waited_since}
use Rattle.gw_poll.specs.Courses.{IsGoing}
use Rattle.gw_poll.specs.Histories.{no_call}
use Rattle.gw_poll.specs.declared.course.Course.{Course}
use Rattle.gw_poll.proofs.course.Course.poll.Goals as goal

pub pieces-init : goal.pieces-init
pieces-init g c = record {
  goes = λ p h at f. goes_self (g.U.PollUpstream.refuses c.args.up.now c.args.up.now) p c.args.w.now c.args.self.now h _ _ f;
  going = λ bytes going. ([], (refl, subst (λ (b : List ℕ). IsGoing c.args.self.now b) (sym (append-nil bytes)) going));
  few = omega arith;
  held = c.requires.going.1;
  over = λ over. inl over;
  pass = pass_self _;
  refused = refl;
  link = goes_unread g.K.PollLink _ _ (link_self g.K.PollLink _);
  up = up_self g.U.PollUpstream g.met.U.PollUpstream.becomes_self _;
  task = λ fact holds. holds;
  door = refl;
}

pub returns-in-Ready-Ok-Ended-clause-ends : goal.returns-in-Ready-Ok-Ended-clause-ends
returns-in-Ready-Ok-Ended-clause-ends g c = λ p h f.
    let ended = (rw c.in-Ready-Ok-Ended.field-0-is at c.in-Ready-Ok-Ended.ensures.ended) c.in-Ready-Ok-Ended.why c.in-Ready-Ok-Ended.field-0-0-is in
    session_ended p c.serve.new.self h c.in-Ready-Ok-Ended.why f ended.0 ended.1

pub returns-in-Ready-Ok-Ended-clause-over : goal.returns-in-Ready-Ok-Ended-clause-over
returns-in-Ready-Ok-Ended-clause-over g c = over_still _ _ _ _ _ _ c.serve.ensures.over c.pieces.invariant.link.unended c.serve.ensures.link.unended c.pieces.invariant.over

pub serve-requires-clause-going : goal.serve-requires-clause-going
serve-requires-clause-going g c =
    let on = c.pieces.invariant.going c.requires.going.0.0 c.requires.going.0.1 in
    ((c.requires.going.0.0 ++ on.0, on.1.1), c.pieces.invariant.held)

pub returns-in-Ready-Ok-Ended-clause-goes : goal.returns-in-Ready-Ok-Ended-clause-goes
returns-in-Ready-Ok-Ended-clause-goes g c = λ p h at f.
    let refuses = g.U.PollUpstream.refuses in
    let first = c.args.up.now in
    let middle = c.pieces.up in
    let last = c.serve.new.up in
    let i = c.pieces.invariant in
    let still = λ (call : UpstreamCall) (to : Socket) (refused : refuses first middle call to). g.met.U.PollUpstream.refuses_still first middle last call to refused c.serve.ensures.up.becomes in
    let later = λ (call : UpstreamCall) (to : Socket) (refused : refuses middle last call to). g.met.U.PollUpstream.refuses_later first middle last call to i.up.becomes refused in
    let t = i.goes p h at f in
    goes_then (refuses first middle) (refuses middle last) (refuses first last) p c.args.w.now c.pieces.w c.serve.new.w c.pieces.self c.serve.new.self h _ _ _ _ _ _ still later t
    ((rw c.in-Ready-Ok-Ended.field-0-is at c.in-Ready-Ok-Ended.ensures.goes) p t.h' (still_at p c.args.w.now c.pieces.w i.pass.fixed at) t.follows)

pub returns-in-Ready-Err-clause-broke : goal.returns-in-Ready-Err-clause-broke
returns-in-Ready-Err-clause-broke g c = λ p h at f.
    let refuses = g.U.PollUpstream.refuses in
    let first = c.args.up.now in
    let middle = c.pieces.up in
    let last = c.serve.new.up in
    let i = c.pieces.invariant in
    let still = λ (call : UpstreamCall) (to : Socket) (refused : refuses first middle call to). g.met.U.PollUpstream.refuses_still first middle last call to refused c.serve.ensures.up.becomes in
    let later = λ (call : UpstreamCall) (to : Socket) (refused : refuses middle last call to). g.met.U.PollUpstream.refuses_later first middle last call to i.up.becomes refused in
    let t = i.goes p h at f in
    gives_up_then (refuses first middle) (refuses middle last) (refuses first last) p c.args.w.now c.pieces.w c.serve.new.w c.pieces.self c.serve.new.self h _ _ _ _ _ _ still later t
    ((rw c.in-Ready-Err.field-0-is at c.in-Ready-Err.ensures.broke) p t.h' (still_at p c.args.w.now c.pieces.w i.pass.fixed at) t.follows)

pub returns-in-Ready-Err-clause-cause : goal.returns-in-Ready-Err-clause-cause
returns-in-Ready-Err-clause-cause g c =
    cause_since _ _ _ c.in-Ready-Err.fault c.pieces.invariant.link.later (rw c.in-Ready-Err.field-0-is at c.in-Ready-Err.ensures.cause)

pub returns-in-Pending-clause-goes : goal.returns-in-Pending-clause-goes
returns-in-Pending-clause-goes g c = λ p h at f.
    let refuses = g.U.PollUpstream.refuses in
    let first = c.args.up.now in
    let middle = c.pieces.up in
    let last = c.serve.new.up in
    let i = c.pieces.invariant in
    let still = λ (call : UpstreamCall) (to : Socket) (refused : refuses first middle call to). g.met.U.PollUpstream.refuses_still first middle last call to refused c.serve.ensures.up.becomes in
    let later = λ (call : UpstreamCall) (to : Socket) (refused : refuses middle last call to). g.met.U.PollUpstream.refuses_later first middle last call to i.up.becomes refused in
    let t = i.goes p h at f in
    goes_then (refuses first middle) (refuses middle last) (refuses first last) p c.args.w.now c.pieces.w c.serve.new.w c.pieces.self c.serve.new.self h _ _ _ _ _ _ still later t
    (c.in-Pending.ensures.goes p t.h' (still_at p c.args.w.now c.pieces.w i.pass.fixed at) t.follows)

pub returns-in-Pending-clause-going : goal.returns-in-Pending-clause-going
returns-in-Pending-clause-going g c =
    let bytes = c.requires.going.0.0 in
    let on = c.pieces.invariant.going bytes c.requires.going.0.1 in
    ((bytes ++ on.0, c.in-Pending.ensures.going (bytes ++ on.0) on.1.1), c.in-Pending.ensures.held)

-- It waits in serving only where a mark was to come.
pub returns-in-Pending-clause-idle : goal.returns-in-Pending-clause-idle
returns-in-Pending-clause-idle g c = λ none up_none.
    absurd (c.in-Pending.ensures.ready (c.pieces.invariant.link.unmarked none) (c.pieces.invariant.up.unmarked up_none))

pub returns-in-Pending-clause-over : goal.returns-in-Pending-clause-over
returns-in-Pending-clause-over g c = over_still _ _ _ _ _ _ c.serve.ensures.over c.pieces.invariant.link.unended c.serve.ensures.link.unended c.pieces.invariant.over

pub returns-in-Pending-clause-waits : goal.returns-in-Pending-clause-waits
returns-in-Pending-clause-waits g c =
    inr (either_map (waited_since _ _ _ _ _ c.pieces.invariant.link.write_waits) (waited_since _ _ _ _ _ c.pieces.invariant.up.waits) c.in-Pending.ensures.waits)

pub returns-in-Pending-clause-caught_up : goal.returns-in-Pending-clause-caught_up
returns-in-Pending-clause-caught_up g c = λ unwritten unasked.
    let i = c.pieces.invariant in
    absurd (neither (λ w. unwritten (HasRisen-then _ _ _ i.link.write_waits w.0)) (λ w. unasked (HasRisen-then _ _ _ i.up.waits w.0)) c.in-Pending.ensures.waits)

pub returns-in-Pending-clause-used_up : goal.returns-in-Pending-clause-used_up
returns-in-Pending-clause-used_up g c = λ none up_none.
    absurd (c.in-Pending.ensures.ready (c.pieces.invariant.link.unmarked none) (c.pieces.invariant.up.unmarked up_none))

pub read-requires-clause-reading : goal.read-requires-clause-reading
read-requires-clause-reading g c = c.serve.ensures.more (c.in-Ready-Ok-More.is ∙ ap Ready (c.in-Ready-Ok-More.field-0-is ∙ ap Ok c.in-Ready-Ok-More.field-0-0-is))

pub read-requires-clause-going : goal.read-requires-clause-going
read-requires-clause-going g c =
    let on = c.pieces.invariant.going c.requires.going.0.0 c.requires.going.0.1 in
    (c.requires.going.0.0 ++ on.0, (rw c.in-Ready-Ok-More.field-0-is at c.in-Ready-Ok-More.ensures.going) (c.requires.going.0.0 ++ on.0) on.1.1)

pub returns-in-Ready-Err-read-clause-broke : goal.returns-in-Ready-Err-read-clause-broke
returns-in-Ready-Err-read-clause-broke g c = λ p h at f.
    let refuses = g.U.PollUpstream.refuses in
    let first = c.args.up.now in
    let middle = c.pieces.up in
    let last = c.serve.new.up in
    let i = c.pieces.invariant in
    let still = λ (call : UpstreamCall) (to : Socket) (refused : refuses first middle call to). g.met.U.PollUpstream.refuses_still first middle last call to refused c.serve.ensures.up.becomes in
    let later = λ (call : UpstreamCall) (to : Socket) (refused : refuses middle last call to). g.met.U.PollUpstream.refuses_later first middle last call to i.up.becomes refused in
    let t = i.goes p h at f in
    let s = goes_then (refuses first middle) (refuses middle last) (refuses first last) p c.args.w.now c.pieces.w c.serve.new.w c.pieces.self c.serve.new.self h _ _ _ _ _ _ still later t
    ((rw c.in-Ready-Ok-More.field-0-is at c.in-Ready-Ok-More.ensures.goes) p t.h' (still_at p c.args.w.now c.pieces.w i.pass.fixed at) t.follows) in
    gives_up_then (refuses first last) no_call (refuses first last) p c.args.w.now c.serve.new.w c.serve.new.w c.serve.new.self c.read.new.self h _ _ _ _ _ _ (λ call to is. is) (none_failed (refuses first last)) s
    ((rw c.in-Ready-Err-read.field-0-is at c.in-Ready-Err-read.ensures.broke) c.serve.new.w p s.h' _ _ s.follows)

pub returns-in-Ready-Err-read-clause-cause : goal.returns-in-Ready-Err-read-clause-cause
returns-in-Ready-Err-read-clause-cause g c =
    cause_since _ _ _ c.in-Ready-Err-read.fault (omega (arith, c.pieces.invariant.link.later, c.serve.ensures.link.later)) (rw c.in-Ready-Err-read.field-0-is at c.in-Ready-Err-read.ensures.cause)

pub returns-in-Pending-read-clause-goes : goal.returns-in-Pending-read-clause-goes
returns-in-Pending-read-clause-goes g c = λ p h at f.
    let refuses = g.U.PollUpstream.refuses in
    let first = c.args.up.now in
    let middle = c.pieces.up in
    let last = c.serve.new.up in
    let i = c.pieces.invariant in
    let still = λ (call : UpstreamCall) (to : Socket) (refused : refuses first middle call to). g.met.U.PollUpstream.refuses_still first middle last call to refused c.serve.ensures.up.becomes in
    let later = λ (call : UpstreamCall) (to : Socket) (refused : refuses middle last call to). g.met.U.PollUpstream.refuses_later first middle last call to i.up.becomes refused in
    let t = i.goes p h at f in
    let s = goes_then (refuses first middle) (refuses middle last) (refuses first last) p c.args.w.now c.pieces.w c.serve.new.w c.pieces.self c.serve.new.self h _ _ _ _ _ _ still later t
    ((rw c.in-Ready-Ok-More.field-0-is at c.in-Ready-Ok-More.ensures.goes) p t.h' (still_at p c.args.w.now c.pieces.w i.pass.fixed at) t.follows) in
    goes_then (refuses first last) no_call (refuses first last) p c.args.w.now c.serve.new.w c.serve.new.w c.serve.new.self c.read.new.self h _ _ _ _ _ _ (λ call to is. is) (none_failed (refuses first last)) s
    (c.in-Pending-read.ensures.goes c.serve.new.w p s.h' _ _ s.follows)

pub returns-in-Pending-read-clause-going : goal.returns-in-Pending-read-clause-going
returns-in-Pending-read-clause-going g c =
    let bytes = c.requires.going.0.0 in
    let on = c.pieces.invariant.going bytes c.requires.going.0.1 in
    let went = (rw c.in-Ready-Ok-More.field-0-is at c.in-Ready-Ok-More.ensures.going) (bytes ++ on.0) on.1.1 in
    rw c.in-Pending-read.ensures.same ((bytes ++ on.0, went), rw c.in-Ready-Ok-More.field-0-is at c.in-Ready-Ok-More.ensures.held)

pub returns-in-Pending-read-clause-idle : goal.returns-in-Pending-read-clause-idle
returns-in-Pending-read-clause-idle g c = λ none up_none.
    let bytes = c.requires.going.0.0 in
    let on = c.pieces.invariant.going bytes c.requires.going.0.1 in
    let went = (rw c.in-Ready-Ok-More.field-0-is at c.in-Ready-Ok-More.ensures.going) (bytes ++ on.0) on.1.1 in
    let reading = c.serve.ensures.more (c.in-Ready-Ok-More.is ∙ ap Ready (c.in-Ready-Ok-More.field-0-is ∙ ap Ok c.in-Ready-Ok-More.field-0-0-is)) in
    idle_reading c.serve.new.self c.read.new.self (bytes ++ on.0) c.in-Pending-read.ensures.same reading went

pub returns-in-Pending-read-clause-over : goal.returns-in-Pending-read-clause-over
returns-in-Pending-read-clause-over g c =
    over_still _ _ _ _ _ _ (ap (λ (s : Course). is_over s.conn.inlet) c.in-Pending-read.ensures.same ∙ c.serve.ensures.over) c.pieces.invariant.link.unended
    (keeps_then _ _ _ c.serve.ensures.link.unended c.read.ensures.link.unended) c.pieces.invariant.over

pub returns-in-Pending-read-clause-waits : goal.returns-in-Pending-read-clause-waits
returns-in-Pending-read-clause-waits g c =
    inl (waited_since _ _ _ _ _ (omega (arith, c.pieces.invariant.link.read_waits, c.serve.ensures.link.unread_waits)) c.in-Pending-read.ensures.waits)

pub returns-in-Pending-read-clause-caught_up : goal.returns-in-Pending-read-clause-caught_up
returns-in-Pending-read-clause-caught_up g c = λ unwritten unasked p h f.
    let bytes = c.requires.going.0.0 in
    let on = c.pieces.invariant.going bytes c.requires.going.0.1 in
    let went = (rw c.in-Ready-Ok-More.field-0-is at c.in-Ready-Ok-More.ensures.going) (bytes ++ on.0) on.1.1 in
    let reading = c.serve.ensures.more (c.in-Ready-Ok-More.is ∙ ap Ready (c.in-Ready-Ok-More.field-0-is ∙ ap Ok c.in-Ready-Ok-More.field-0-0-is)) in
    still_session p c.serve.new.self c.read.new.self h c.in-Pending-read.ensures.same reading (hungry_at c.serve.new.self (bytes ++ on.0) went reading).0 f

pub returns-in-Pending-read-clause-used_up : goal.returns-in-Pending-read-clause-used_up
returns-in-Pending-read-clause-used_up g c = λ none up_none.
    let bytes = c.requires.going.0.0 in
    let on = c.pieces.invariant.going bytes c.requires.going.0.1 in
    let went = (rw c.in-Ready-Ok-More.field-0-is at c.in-Ready-Ok-More.ensures.going) (bytes ++ on.0) on.1.1 in
    let reading = c.serve.ensures.more (c.in-Ready-Ok-More.is ∙ ap Ready (c.in-Ready-Ok-More.field-0-is ∙ ap Ok c.in-Ready-Ok-More.field-0-0-is)) in (
      c.in-Pending-read.ensures.ready (c.serve.ensures.link.unmarked (c.pieces.invariant.link.unmarked none)),
      λ p h f. still_session p c.serve.new.self c.read.new.self h c.in-Pending-read.ensures.same reading (hungry_at c.serve.new.self (bytes ++ on.0) went reading).0 f,
    )

-- At most as many bytes were taken as a connection has that hasn't ended.
pub overflow_add-taken : goal.overflow_add-taken
overflow_add-taken g c =
    let bytes = c.requires.going.0.0 in
    let on = c.pieces.invariant.going bytes c.requires.going.0.1 in
    let went = (rw c.in-Ready-Ok-More.field-0-is at c.in-Ready-Ok-More.ensures.going) (bytes ++ on.0) on.1.1 in
    let reading = c.serve.ensures.more (c.in-Ready-Ok-More.is ∙ ap Ready (c.in-Ready-Ok-More.field-0-is ∙ ap Ok c.in-Ready-Ok-More.field-0-0-is)) in
    let few = (hungry_at c.serve.new.self (bytes ++ on.0) went reading).1.1 in
    omega (arith, few, on.1.0, length-append bytes on.0, rw c.in-Ready-Ok.field-0-is at c.in-Ready-Ok.ensures.within, c.read.auto.buffer, c.requires.few)

pub pieces-smaller : goal.pieces-smaller
pieces-smaller g c =
    let bytes = c.requires.going.0.0 in
    let on = c.pieces.invariant.going bytes c.requires.going.0.1 in
    let went = (rw c.in-Ready-Ok-More.field-0-is at c.in-Ready-Ok-More.ensures.going) (bytes ++ on.0) on.1.1 in
    let reading = c.serve.ensures.more (c.in-Ready-Ok-More.is ∙ ap Ready (c.in-Ready-Ok-More.field-0-is ∙ ap Ok c.in-Ready-Ok-More.field-0-0-is)) in
    let unfinished = (hungry_at c.serve.new.self (bytes ++ on.0) went reading).1 in
    fewer_left _ c.pieces.taken c.in-Ready-Ok.size _ _ (omega (arith, unfinished.1, on.1.0, length-append bytes on.0)) (sym c.serve.ensures.over ∙ unfinished.0) (rw c.in-Ready-Ok.field-0-is at c.in-Ready-Ok.ensures.over)

pub pieces-preserved : goal.pieces-preserved
pieces-preserved g c =
    let refuses = g.U.PollUpstream.refuses in
    let first = c.args.up.now in
    let middle = c.pieces.up in
    let last = c.serve.new.up in
    let i = c.pieces.invariant in
    let still = λ (call : UpstreamCall) (to : Socket) (refused : refuses first middle call to). g.met.U.PollUpstream.refuses_still first middle last call to refused c.serve.ensures.up.becomes in
    let later = λ (call : UpstreamCall) (to : Socket) (refused : refuses middle last call to). g.met.U.PollUpstream.refuses_later first middle last call to i.up.becomes refused in
    let few_of = λ (bytes : List ℕ) (going : IsGoing c.args.self.now bytes).
    (rw c.in-Ready-Ok-More.field-0-is at c.in-Ready-Ok-More.ensures.going) (bytes ++ (i.going bytes going).0) (i.going bytes going).1.1 in
    let bytes = c.requires.going.0.0 in
    let on = i.going bytes c.requires.going.0.1 in
    let reading = c.serve.ensures.more (c.in-Ready-Ok-More.is ∙ ap Ready (c.in-Ready-Ok-More.field-0-is ∙ ap Ok c.in-Ready-Ok-More.field-0-0-is)) in
    let few = (hungry_at c.serve.new.self (bytes ++ on.0) (few_of bytes c.requires.going.0.1) reading).1.1 in
    record {
      goes = λ p h at f.
          let t = i.goes p h at f in
          let s = goes_then (refuses first middle) (refuses middle last) (refuses first last) p c.args.w.now c.pieces.w c.serve.new.w c.pieces.self c.serve.new.self h _ _ _ _ _ _ still later t
          ((rw c.in-Ready-Ok-More.field-0-is at c.in-Ready-Ok-More.ensures.goes) p t.h' (still_at p c.args.w.now c.pieces.w i.pass.fixed at) t.follows) in
          goes_then (refuses first last) no_call (refuses first last) p c.args.w.now c.serve.new.w c.serve.new.w c.serve.new.self c.read.new.self h _ _ _ _ _ _ (λ call to is. is) (none_failed (refuses first last)) s
          ((rw c.in-Ready-Ok.field-0-is at c.in-Ready-Ok.ensures.goes) c.serve.new.w p s.h' _ _ s.follows);
      going = λ b going.
          let m = i.going b going in
          let r = (rw c.in-Ready-Ok.field-0-is at c.in-Ready-Ok.ensures.going) (b ++ m.0) (few_of b going) in
          (m.0 ++ r.0, (omega (arith, length-append m.0 r.0, m.1.0, r.1.0), subst (λ (x : List ℕ). IsGoing c.read.new.self x) (append_assoc b m.0 r.0) r.1.1));
      few = omega (arith, few, on.1.0, length-append bytes on.0, rw c.in-Ready-Ok.field-0-is at c.in-Ready-Ok.ensures.within, c.read.auto.buffer, c.requires.few);
      held = rw (rw c.in-Ready-Ok.field-0-is at c.in-Ready-Ok.ensures.stage) tt;
      over = λ over.
          inr (stands_end _ _ (c.read.ensures.ends (c.in-Ready-Ok.is ∙ ap Ready (c.in-Ready-Ok.field-0-is ∙ ap Ok (none_read c.in-Ready-Ok.size (sym (rw c.in-Ready-Ok.field-0-is at c.in-Ready-Ok.ensures.over) ∙ over))))));
      pass = pass_then _ _ _ i.pass c.serve.ensures.pass;
      link = link_goes_then g.K.PollLink _ _ _ (link_goes_then g.K.PollLink _ _ _ i.link (goes_unread g.K.PollLink _ _ c.serve.ensures.link)) c.read.ensures.link;
      up = up_then g.U.PollUpstream g.met.U.PollUpstream.becomes_then _ _ _ i.up c.serve.ensures.up;
      refused = (rw c.in-Ready-Ok-More.field-0-is at c.in-Ready-Ok-More.ensures.refused) ∙ i.refused;
      task = λ fact holds. c.read.ensures.task fact (c.serve.ensures.task fact (i.task fact holds));
      door = c.read.ensures.door ∙ c.serve.ensures.door ∙ i.door;
    }

pub returns-in-Ready-Err-clause-refused : goal.returns-in-Ready-Err-clause-refused
returns-in-Ready-Err-clause-refused g c =
    subst (λ (n : ℕ). CountsRefused c.in-Ready-Err.fault n c.serve.new.w.pass.refused) c.pieces.invariant.refused (rw c.in-Ready-Err.field-0-is at c.in-Ready-Err.ensures.refused)

-- A read that failed is refused no place.
pub returns-in-Ready-Err-read-clause-refused : goal.returns-in-Ready-Err-read-clause-refused
returns-in-Ready-Err-read-clause-refused g c =
    let same = (rw c.in-Ready-Ok-More.field-0-is at c.in-Ready-Ok-More.ensures.refused) ∙ c.pieces.invariant.refused in
    not_refused c.in-Ready-Err-read.fault _ _ (rw c.in-Ready-Err-read.field-0-is at c.in-Ready-Err-read.ensures.no_place) same

pub returns-in-Ready-Ok-Ended-clause-pass : goal.returns-in-Ready-Ok-Ended-clause-pass
returns-in-Ready-Ok-Ended-clause-pass g c = pass_then _ _ _ c.pieces.invariant.pass c.serve.ensures.pass

pub returns-in-Ready-Err-clause-pass : goal.returns-in-Ready-Err-clause-pass
returns-in-Ready-Err-clause-pass g c = pass_then _ _ _ c.pieces.invariant.pass c.serve.ensures.pass

pub returns-in-Pending-clause-pass : goal.returns-in-Pending-clause-pass
returns-in-Pending-clause-pass g c = pass_then _ _ _ c.pieces.invariant.pass c.serve.ensures.pass

pub returns-in-Ready-Err-read-clause-pass : goal.returns-in-Ready-Err-read-clause-pass
returns-in-Ready-Err-read-clause-pass g c = pass_then _ _ _ c.pieces.invariant.pass c.serve.ensures.pass

pub returns-in-Pending-read-clause-pass : goal.returns-in-Pending-read-clause-pass
returns-in-Pending-read-clause-pass g c = pass_then _ _ _ c.pieces.invariant.pass c.serve.ensures.pass

pub returns-in-Ready-Ok-Ended-clause-link : goal.returns-in-Ready-Ok-Ended-clause-link
returns-in-Ready-Ok-Ended-clause-link g c = link_goes_then g.K.PollLink _ _ _ c.pieces.invariant.link (goes_unread g.K.PollLink _ _ c.serve.ensures.link)

pub returns-in-Ready-Err-clause-link : goal.returns-in-Ready-Err-clause-link
returns-in-Ready-Err-clause-link g c = link_goes_then g.K.PollLink _ _ _ c.pieces.invariant.link (goes_unread g.K.PollLink _ _ c.serve.ensures.link)

pub returns-in-Pending-clause-link : goal.returns-in-Pending-clause-link
returns-in-Pending-clause-link g c = link_goes_then g.K.PollLink _ _ _ c.pieces.invariant.link (goes_unread g.K.PollLink _ _ c.serve.ensures.link)

pub returns-in-Ready-Err-read-clause-link : goal.returns-in-Ready-Err-read-clause-link
returns-in-Ready-Err-read-clause-link g c =
    link_goes_then g.K.PollLink _ _ _ (link_goes_then g.K.PollLink _ _ _ c.pieces.invariant.link (goes_unread g.K.PollLink _ _ c.serve.ensures.link)) c.read.ensures.link

pub returns-in-Pending-read-clause-link : goal.returns-in-Pending-read-clause-link
returns-in-Pending-read-clause-link g c =
    link_goes_then g.K.PollLink _ _ _ (link_goes_then g.K.PollLink _ _ _ c.pieces.invariant.link (goes_unread g.K.PollLink _ _ c.serve.ensures.link)) c.read.ensures.link

pub returns-in-Ready-Ok-Ended-clause-up : goal.returns-in-Ready-Ok-Ended-clause-up
returns-in-Ready-Ok-Ended-clause-up g c = up_then g.U.PollUpstream g.met.U.PollUpstream.becomes_then _ _ _ c.pieces.invariant.up c.serve.ensures.up

pub returns-in-Ready-Err-clause-up : goal.returns-in-Ready-Err-clause-up
returns-in-Ready-Err-clause-up g c = up_then g.U.PollUpstream g.met.U.PollUpstream.becomes_then _ _ _ c.pieces.invariant.up c.serve.ensures.up

pub returns-in-Pending-clause-up : goal.returns-in-Pending-clause-up
returns-in-Pending-clause-up g c = up_then g.U.PollUpstream g.met.U.PollUpstream.becomes_then _ _ _ c.pieces.invariant.up c.serve.ensures.up

pub returns-in-Ready-Err-read-clause-up : goal.returns-in-Ready-Err-read-clause-up
returns-in-Ready-Err-read-clause-up g c = up_then g.U.PollUpstream g.met.U.PollUpstream.becomes_then _ _ _ c.pieces.invariant.up c.serve.ensures.up

pub returns-in-Pending-read-clause-up : goal.returns-in-Pending-read-clause-up
returns-in-Pending-read-clause-up g c = up_then g.U.PollUpstream g.met.U.PollUpstream.becomes_then _ _ _ c.pieces.invariant.up c.serve.ensures.up
