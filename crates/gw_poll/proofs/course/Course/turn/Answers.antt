-- By what comes next.
use Rattle.std.proofs.Common.{◌≡◌, ◌∙◌, ◌<◌, ℕ, List, Option, Some, None, inl, inr, sym, subst}
use Rattle.gw_poll_exchange.proofs.Ending.{pending_map}
use Rattle.gw_poll_exchange.proofs.Staying.{up_self}
use Rattle.gw_worker.proofs.Staying.{pass_self}
use Rattle.gw_worker.specs.Flows.{outside}
use Rattle.gw_worker.specs.declared.serve.ConnFault.{ConnFault}
use Rattle.gw_worker.specs.declared.serve.Flow.{Flow}
use Rattle.gw_worker.specs.declared.serve.Flow.TheVariants.{More}
use Rattle.gw_poll.proofs.Going.{gives_up_wider, goes_self, goes_wider}
use Rattle.gw_poll.proofs.Keeping.{cause_apart, done_at, failed_map, fewer_written, going_done, going_map, if_done_map, if_failed_map, never, none_refused}
use Rattle.gw_poll.proofs.Staying.{link_self}
use Rattle.gw_poll.specs.Causes.{HasCause}
use Rattle.gw_poll.specs.Courses.{Follows, IsGoing, IsHeld, steps_left}
use Rattle.gw_poll.specs.declared.course.Stage.{Stage}
use Rattle.gw_poll.specs.declared.course.Stage.TheVariants.{Turning, Exchanging}
use Rattle.gw_poll.proofs.course.Course.turn.Goals as goal

pub next-requires-clause-going : goal.next-requires-clause-going
next-requires-clause-going g c =
    let same = sym c.replace.ensures.value ∙ c.in-Turning.is ∙ sym c.replace.ensures.after in
    (c.requires.going.0.0, subst (λ (st : Stage). IsGoing (record c.args.self.now { stage = st }) c.requires.going.0.0) same c.requires.going.0.1)

pub returns-in-Turning-clause-goes : goal.returns-in-Turning-clause-goes
returns-in-Turning-clause-goes g c =
    let same = sym c.replace.ensures.value ∙ c.in-Turning.is ∙ sym c.replace.ensures.after in
    going_done c.next.result c.next.ensures.ready (λ goes p h at f.
    goes_wider (g.U.PollUpstream.refuses c.args.up.now c.args.up.now) p c.args.w.now c.next.new.w c.next.new.self h _ _ _ _
    (goes p h at (subst (λ (st : Stage). Follows p (record c.args.self.now { stage = st }) h) same f) (g.K.PollLink.left c.args.link.now) (outside (g.K.PollLink.written c.args.link.now) (g.U.PollUpstream.exchanges c.args.up.now) (g.U.PollUpstream.faults c.args.up.now))))
    c.next.ensures.goes

pub returns-in-Turning-clause-broke : goal.returns-in-Turning-clause-broke
returns-in-Turning-clause-broke g c =
    let same = sym c.replace.ensures.value ∙ c.in-Turning.is ∙ sym c.replace.ensures.after in
    failed_map c.next.result (λ broke p h at f.
    gives_up_wider (g.U.PollUpstream.refuses c.args.up.now c.args.up.now) p c.args.w.now c.next.new.w c.next.new.self h _ _ _ _
    (broke p h at (subst (λ (st : Stage). Follows p (record c.args.self.now { stage = st }) h) same f) (g.K.PollLink.left c.args.link.now) (outside (g.K.PollLink.written c.args.link.now) (g.U.PollUpstream.exchanges c.args.up.now) (g.U.PollUpstream.faults c.args.up.now))))
    c.next.ensures.broke

pub returns-in-Turning-clause-going : goal.returns-in-Turning-clause-going
returns-in-Turning-clause-going g c =
    let same = sym c.replace.ensures.value ∙ c.in-Turning.is ∙ sym c.replace.ensures.after in
    going_done c.next.result c.next.ensures.ready (λ on bytes going. on bytes (subst (λ (st : Stage). IsGoing (record c.args.self.now { stage = st }) bytes) same going)) c.next.ensures.going

pub returns-in-Turning-clause-held : goal.returns-in-Turning-clause-held
returns-in-Turning-clause-held g c = going_done c.next.result c.next.ensures.ready (λ held. held _) c.next.ensures.held

pub returns-in-Reading-clause-goes : goal.returns-in-Reading-clause-goes
returns-in-Reading-clause-goes g c = λ p h at f.
    let same = sym c.replace.ensures.value ∙ c.in-Reading.is in
    goes_self (g.U.PollUpstream.refuses c.args.up.now c.args.up.now) p c.args.w.now _ h _ _ (subst (λ (st : Stage). Follows p (record c.args.self.now { stage = st }) h) same f)

pub returns-in-Reading-clause-going : goal.returns-in-Reading-clause-going
returns-in-Reading-clause-going g c = λ bytes going.
    let same = sym c.replace.ensures.value ∙ c.in-Reading.is in
    subst (λ (st : Stage). IsGoing (record c.args.self.now { stage = st }) bytes) same going

pub write-requires : goal.write-requires
write-requires g c =
    let same = sym c.replace.ensures.value ∙ c.in-Writing.is in
    record { going = (c.requires.going.0.0, subst (λ (st : Stage). IsGoing (record c.args.self.now { stage = st }) c.requires.going.0.0) same c.requires.going.0.1) }

pub returns-in-Writing-clause-goes : goal.returns-in-Writing-clause-goes
returns-in-Writing-clause-goes g c =
    let same = sym c.replace.ensures.value ∙ c.in-Writing.is in
    going_map c.write.result (λ goes p h at f.
    goes_wider (g.U.PollUpstream.refuses c.args.up.now c.args.up.now) p c.args.w.now c.args.w.now c.write.new.self h _ _ _ _
    (goes c.args.w.now p h (g.U.PollUpstream.exchanges c.args.up.now) (g.U.PollUpstream.faults c.args.up.now) (subst (λ (st : Stage). Follows p (record c.args.self.now { stage = st }) h) same f)))
    c.write.ensures.goes

pub returns-in-Writing-clause-broke : goal.returns-in-Writing-clause-broke
returns-in-Writing-clause-broke g c =
    let same = sym c.replace.ensures.value ∙ c.in-Writing.is in
    failed_map c.write.result (λ broke p h at f.
    gives_up_wider (g.U.PollUpstream.refuses c.args.up.now c.args.up.now) p c.args.w.now c.args.w.now c.write.new.self h _ _ _ _
    (broke c.args.w.now p h (g.U.PollUpstream.exchanges c.args.up.now) (g.U.PollUpstream.faults c.args.up.now) (subst (λ (st : Stage). Follows p (record c.args.self.now { stage = st }) h) same f)))
    c.write.ensures.broke

pub returns-in-Writing-clause-going : goal.returns-in-Writing-clause-going
returns-in-Writing-clause-going g c =
    let same = sym c.replace.ensures.value ∙ c.in-Writing.is in
    going_map c.write.result (λ on bytes going. on bytes (subst (λ (st : Stage). IsGoing (record c.args.self.now { stage = st }) bytes) same going)) c.write.ensures.going

pub returns-in-Writing-clause-held : goal.returns-in-Writing-clause-held
returns-in-Writing-clause-held g c = going_map c.write.result (λ held. held _) c.write.ensures.held

pub exchange-requires-clause-going : goal.exchange-requires-clause-going
exchange-requires-clause-going g c =
    let same = sym c.replace.ensures.value ∙ c.in-Exchanging.is in
    (c.requires.going.0.0, subst (λ (st : Stage). IsGoing (record c.args.self.now { stage = st }) c.requires.going.0.0) same c.requires.going.0.1)

pub exchange-requires-clause-held : goal.exchange-requires-clause-held
exchange-requires-clause-held g c =
    let same = sym c.replace.ensures.value ∙ c.in-Exchanging.is in
    subst (λ (st : Stage). IsHeld st (g.U.PollUpstream.at c.args.up.now)) same c.requires.going.1

pub returns-in-Exchanging-clause-goes : goal.returns-in-Exchanging-clause-goes
returns-in-Exchanging-clause-goes g c =
    let same = sym c.replace.ensures.value ∙ c.in-Exchanging.is in
    rw c.exchange.ensures.worker (going_map c.exchange.result (λ goes p h at f. goes p h _ _ (subst (λ (st : Stage). Follows p (record c.args.self.now { stage = st }) h) same f)) c.exchange.ensures.goes)

pub returns-in-Exchanging-clause-broke : goal.returns-in-Exchanging-clause-broke
returns-in-Exchanging-clause-broke g c =
    let same = sym c.replace.ensures.value ∙ c.in-Exchanging.is in
    rw c.exchange.ensures.worker (failed_map c.exchange.result (λ broke p h at f. broke p h _ _ (subst (λ (st : Stage). Follows p (record c.args.self.now { stage = st }) h) same f)) c.exchange.ensures.broke)

pub returns-in-Exchanging-clause-going : goal.returns-in-Exchanging-clause-going
returns-in-Exchanging-clause-going g c =
    let same = sym c.replace.ensures.value ∙ c.in-Exchanging.is in
    going_map c.exchange.result (λ on bytes going. on bytes (subst (λ (st : Stage). IsGoing (record c.args.self.now { stage = st }) bytes) same going)) c.exchange.ensures.going

pub returns-in-Turning-clause-fewer : goal.returns-in-Turning-clause-fewer
returns-in-Turning-clause-fewer g c = λ is bytes going.
    let same = sym c.replace.ensures.value ∙ c.in-Turning.is ∙ sym c.replace.ensures.after in
    subst (λ (st : Stage). steps_left c.next.new.self < steps_left (record c.args.self.now { stage = st })) (sym same)
    (c.next.ensures.fewer is bytes (subst (λ (st : Stage). IsGoing (record c.args.self.now { stage = st }) bytes) same going))

pub returns-in-Turning-clause-cause : goal.returns-in-Turning-clause-cause
returns-in-Turning-clause-cause g c = if_failed_map c.next.result (λ fault apart. cause_apart _ _ fault apart) c.next.ensures.cause

pub returns-in-Turning-clause-waits : goal.returns-in-Turning-clause-waits
returns-in-Turning-clause-waits g c = never _ c.next.result c.next.ensures.ready

pub returns-in-Turning-clause-ready : goal.returns-in-Turning-clause-ready
returns-in-Turning-clause-ready g c = never _ c.next.result c.next.ensures.ready

pub returns-in-Reading-clause-fewer : goal.returns-in-Reading-clause-fewer
returns-in-Reading-clause-fewer g c = λ is. absurd (cc is)

pub returns-in-Reading-clause-ended : goal.returns-in-Reading-clause-ended
returns-in-Reading-clause-ended g c = λ why is. absurd (cc is)

pub returns-in-Writing-clause-fewer : goal.returns-in-Writing-clause-fewer
returns-in-Writing-clause-fewer g c = λ is bytes going.
    let same = sym c.replace.ensures.value ∙ c.in-Writing.is in
    let done = done_at (λ (flow : Option Flow). (flow ≡ None) × (c.write.new.self.stage ≡ Turning)) c.write.result None is c.write.ensures.done in
    fewer_written c.args.self.now c.write.new.self c.in-Writing.text c.in-Writing.at same done.1 c.write.ensures.conn

pub returns-in-Writing-clause-more : goal.returns-in-Writing-clause-more
returns-in-Writing-clause-more g c = λ is.
    let done = done_at (λ (flow : Option Flow). (flow ≡ None) × (c.write.new.self.stage ≡ Turning)) c.write.result (Some More) is c.write.ensures.done in
    absurd (cc done.0)

pub returns-in-Writing-clause-ended : goal.returns-in-Writing-clause-ended
returns-in-Writing-clause-ended g c = if_done_map c.write.result (λ flow done why is. absurd (cc (done.0, is))) c.write.ensures.done

pub returns-in-Writing-clause-cause : goal.returns-in-Writing-clause-cause
returns-in-Writing-clause-cause g c =
    if_failed_map c.write.result (λ fault is. subst (λ (f : ConnFault). HasCause (g.K.PollLink.faults c.args.link.now) (g.K.PollLink.faults c.write.new.link) f) (sym is.0) is.1) c.write.ensures.cause

pub returns-in-Writing-clause-refused : goal.returns-in-Writing-clause-refused
returns-in-Writing-clause-refused g c = none_refused c.write.result _ (if_failed_map c.write.result (λ fault is place. absurd (cc (is.0, place))) c.write.ensures.cause)

pub returns-in-Writing-clause-waits : goal.returns-in-Writing-clause-waits
returns-in-Writing-clause-waits g c = pending_map c.write.result (λ waited. inl waited) c.write.ensures.waits

pub returns-in-Writing-clause-ready : goal.returns-in-Writing-clause-ready
returns-in-Writing-clause-ready g c = pending_map c.write.result (λ marked none up_none. marked none) c.write.ensures.ready

pub returns-in-Exchanging-clause-fewer : goal.returns-in-Exchanging-clause-fewer
returns-in-Exchanging-clause-fewer g c = λ is bytes going.
    let same = sym c.replace.ensures.value ∙ c.in-Exchanging.is in
    subst (λ (st : Stage). steps_left c.exchange.new.self < steps_left (record c.args.self.now { stage = st })) (sym same)
    (done_at (λ (flow : Option Flow). (b : List ℕ) → IsGoing (record c.args.self.now { stage = Exchanging c.in-Exchanging.exchange }) b
    → steps_left c.exchange.new.self < steps_left (record c.args.self.now { stage = Exchanging c.in-Exchanging.exchange })) c.exchange.result None is c.exchange.ensures.fewer
    bytes (subst (λ (st : Stage). IsGoing (record c.args.self.now { stage = st }) bytes) same going))

pub returns-in-Exchanging-clause-more : goal.returns-in-Exchanging-clause-more
returns-in-Exchanging-clause-more g c = λ is.
    let done = done_at (λ (flow : Option Flow). flow ≡ None) c.exchange.result (Some More) is c.exchange.ensures.done in
    absurd (cc done)

pub returns-in-Exchanging-clause-ended : goal.returns-in-Exchanging-clause-ended
returns-in-Exchanging-clause-ended g c = if_done_map c.exchange.result (λ flow done why is. absurd (cc (done, is))) c.exchange.ensures.done

pub returns-in-Exchanging-clause-cause : goal.returns-in-Exchanging-clause-cause
returns-in-Exchanging-clause-cause g c =
    if_failed_map c.exchange.result (λ fault is. cause_apart _ _ fault ((λ read. absurd (cc (is, read))), (λ write. absurd (cc (is, write))))) c.exchange.ensures.cause

pub returns-in-Exchanging-clause-refused : goal.returns-in-Exchanging-clause-refused
returns-in-Exchanging-clause-refused g c =
    rw c.exchange.ensures.worker (none_refused c.exchange.result _ (if_failed_map c.exchange.result (λ fault is place. absurd (cc (is, place))) c.exchange.ensures.cause))

pub returns-in-Exchanging-clause-waits : goal.returns-in-Exchanging-clause-waits
returns-in-Exchanging-clause-waits g c = pending_map c.exchange.result (λ waited. inr waited) c.exchange.ensures.waits

pub returns-in-Exchanging-clause-ready : goal.returns-in-Exchanging-clause-ready
returns-in-Exchanging-clause-ready g c = pending_map c.exchange.result (λ marked none. marked) c.exchange.ensures.ready

pub returns-in-Turning-clause-link : goal.returns-in-Turning-clause-link
returns-in-Turning-clause-link g c = link_self g.K.PollLink _

pub returns-in-Reading-clause-link : goal.returns-in-Reading-clause-link
returns-in-Reading-clause-link g c = link_self g.K.PollLink _

pub returns-in-Exchanging-clause-link : goal.returns-in-Exchanging-clause-link
returns-in-Exchanging-clause-link g c = link_self g.K.PollLink _

pub returns-in-Turning-clause-up : goal.returns-in-Turning-clause-up
returns-in-Turning-clause-up g c = up_self g.U.PollUpstream g.met.U.PollUpstream.becomes_self _

pub returns-in-Reading-clause-up : goal.returns-in-Reading-clause-up
returns-in-Reading-clause-up g c = up_self g.U.PollUpstream g.met.U.PollUpstream.becomes_self _

pub returns-in-Writing-clause-up : goal.returns-in-Writing-clause-up
returns-in-Writing-clause-up g c = up_self g.U.PollUpstream g.met.U.PollUpstream.becomes_self _

pub returns-in-Reading-clause-pass : goal.returns-in-Reading-clause-pass
returns-in-Reading-clause-pass g c = pass_self _

pub returns-in-Writing-clause-pass : goal.returns-in-Writing-clause-pass
returns-in-Writing-clause-pass g c = pass_self _

pub returns-in-Exchanging-clause-pass : goal.returns-in-Exchanging-clause-pass
returns-in-Exchanging-clause-pass g c = rw c.exchange.ensures.worker (pass_self _)
