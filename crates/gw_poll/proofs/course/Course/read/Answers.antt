-- What is read is taken.
use Rattle.std.proofs.Common.{◌≡◌, ◌≤◌, ◌∙◌, ◌==◌, ℕ, Ok, ap, length, refl, sym, take, arith}
use Rattle.std.proofs.lemmas.List.{length-take-le}
use Rattle.futures.specs.declared.task.Poll.TheVariants.{Ready}
use Rattle.gw_exchange.specs.declared.backend.TheConstants.{MOST_PIECE}
use Rattle.gw_worker.proofs.Linking.{empty_size}
use Rattle.gw_poll.proofs.Going.{goes_kept}
use Rattle.gw_poll.proofs.Keeping.{done_at, done_both, failed_map, going_done, hungry_at, if_done_both}
use Rattle.gw_poll.proofs.Stepping.{gives_up_unfed, gives_up_unread, goes_read}
use Rattle.gw_poll.specs.Histories.{no_call}
use Rattle.gw_poll.proofs.course.Course.read.Goals as goal

pub returns-in-Ready-Ok-clause-goes : goal.returns-in-Ready-Ok-clause-goes
returns-in-Ready-Ok-clause-goes g c =
    let within = rw c.in-Ready-Ok.field-0-is at c.in-Ready-Ok.ensures.within in
    let unfinished = (hungry_at c.args.self.now c.requires.going.0 c.requires.going.1 c.requires.reading).1.0 in
    let small : length (take c.in-Ready-Ok.size c.poll_read.new.buf) ≤ MOST_PIECE = omega (arith, within, length-take-le c.in-Ready-Ok.size c.poll_read.new.buf within, c.poll_read.auto.buf, c.requires.few) in
    going_done c.take.result c.take.ensures.ready (λ all w p h x n f.
    goes_read p c.args.self.now c.take.new.self h (take c.in-Ready-Ok.size c.poll_read.new.buf) _ _ _ _ no_call w x n f c.requires.reading unfinished small all.1.0 (λ parts text. all.0 p h.bytes parts text) all.1.1
    (rw c.in-Ready-Ok.field-0-is at c.in-Ready-Ok.ensures.gives)
    (λ over. (c.poll_read.ensures.ends (c.in-Ready-Ok.is ∙ ap Ready (c.in-Ready-Ok.field-0-is ∙ ap Ok (empty_size c.in-Ready-Ok.size c.poll_read.new.buf within over)))).0) c.poll_read.ensures.unwritten)
    (done_both _ _ c.take.result c.take.ensures.fed (done_both _ _ c.take.result c.take.ensures.stage c.take.ensures.over))

pub returns-in-Ready-Ok-clause-broke : goal.returns-in-Ready-Ok-clause-broke
returns-in-Ready-Ok-clause-broke g c =
    let within = rw c.in-Ready-Ok.field-0-is at c.in-Ready-Ok.ensures.within in
    let hungry = hungry_at c.args.self.now c.requires.going.0 c.requires.going.1 c.requires.reading in
    let small : length (take c.in-Ready-Ok.size c.poll_read.new.buf) ≤ MOST_PIECE = omega (arith, within, length-take-le c.in-Ready-Ok.size c.poll_read.new.buf within, c.poll_read.auto.buf, c.requires.few) in
    failed_map c.take.result (λ stands w p h x n f.
    gives_up_unfed p c.args.self.now c.take.new.self h (take c.in-Ready-Ok.size c.poll_read.new.buf) _ _ _ _ no_call w x n f c.requires.reading
    hungry.0 hungry.1.0 small (λ parts text. stands p h.bytes parts text) c.take.ensures.rows
    (rw c.in-Ready-Ok.field-0-is at c.in-Ready-Ok.ensures.gives)
    (λ over. (c.poll_read.ensures.ends (c.in-Ready-Ok.is ∙ ap Ready (c.in-Ready-Ok.field-0-is ∙ ap Ok (empty_size c.in-Ready-Ok.size c.poll_read.new.buf within over)))).0) c.poll_read.ensures.unwritten)
    c.take.ensures.err

pub returns-in-Ready-Ok-clause-going : goal.returns-in-Ready-Ok-clause-going
returns-in-Ready-Ok-clause-going g c = if_done_both c.take.result (λ size is going bytes before. (take c.in-Ready-Ok.size c.poll_read.new.buf, (sym is, going bytes before))) c.take.ensures.size c.take.ensures.going

pub returns-in-Ready-Ok-clause-within : goal.returns-in-Ready-Ok-clause-within
returns-in-Ready-Ok-clause-within g c =
    let within = rw c.in-Ready-Ok.field-0-is at c.in-Ready-Ok.ensures.within in
    if_done_both c.take.result (λ size is over. omega (arith, is, length-take-le c.in-Ready-Ok.size c.poll_read.new.buf within, within)) c.take.ensures.size c.take.ensures.over

pub returns-in-Ready-Ok-clause-over : goal.returns-in-Ready-Ok-clause-over
returns-in-Ready-Ok-clause-over g c = if_done_both c.take.result (λ size is over. over ∙ ap (λ n. n == 0) (sym is)) c.take.ensures.size c.take.ensures.over

pub returns-in-Ready-Ok-clause-ends : goal.returns-in-Ready-Ok-clause-ends
returns-in-Ready-Ok-clause-ends g c = λ is.
    let within = rw c.in-Ready-Ok.field-0-is at c.in-Ready-Ok.ensures.within in
    let none = done_at (λ (n : ℕ). n ≡ length (take c.in-Ready-Ok.size c.poll_read.new.buf)) c.take.result 0 is c.take.ensures.size in
    let empty : c.in-Ready-Ok.size ≡ 0 = omega (arith, none, length-take-le c.in-Ready-Ok.size c.poll_read.new.buf within) in
    (c.poll_read.ensures.ends (c.in-Ready-Ok.is ∙ ap Ready (c.in-Ready-Ok.field-0-is ∙ ap Ok empty))).1

pub returns-in-Ready-Err-clause-broke : goal.returns-in-Ready-Err-clause-broke
returns-in-Ready-Err-clause-broke g c = λ w p h x n f.
    gives_up_unread p c.args.self.now c.args.self.now h _ _ _ _ no_call w x n f c.requires.reading (hungry_at c.args.self.now c.requires.going.0 c.requires.going.1 c.requires.reading).0 refl
    (rw c.in-Ready-Err.field-0-is at c.in-Ready-Err.ensures.kept) c.poll_read.ensures.unwritten

pub returns-in-Pending-clause-goes : goal.returns-in-Pending-clause-goes
returns-in-Pending-clause-goes g c = λ w p h x n f.
    goes_kept no_call p w c.args.self.now h _ _ _ _ x n c.in-Pending.ensures.kept c.poll_read.ensures.unwritten f

pub returns-in-Ready-Ok-clause-link : goal.returns-in-Ready-Ok-clause-link
returns-in-Ready-Ok-clause-link g c =
    record { unended = c.poll_read.ensures.unended; unmarked = c.poll_read.ensures.unmarked; same = c.poll_read.ensures.same; later = c.poll_read.ensures.counts.later; read_waits = c.poll_read.ensures.waits.later; write_waits = omega (arith, c.poll_read.ensures.unwaited) }

pub returns-in-Ready-Err-clause-link : goal.returns-in-Ready-Err-clause-link
returns-in-Ready-Err-clause-link g c =
    record { unended = c.poll_read.ensures.unended; unmarked = c.poll_read.ensures.unmarked; same = c.poll_read.ensures.same; later = c.poll_read.ensures.counts.later; read_waits = c.poll_read.ensures.waits.later; write_waits = omega (arith, c.poll_read.ensures.unwaited) }

pub returns-in-Pending-clause-link : goal.returns-in-Pending-clause-link
returns-in-Pending-clause-link g c =
    record { unended = c.poll_read.ensures.unended; unmarked = c.poll_read.ensures.unmarked; same = c.poll_read.ensures.same; later = c.poll_read.ensures.counts.later; read_waits = c.poll_read.ensures.waits.later; write_waits = omega (arith, c.poll_read.ensures.unwaited) }
