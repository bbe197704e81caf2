-- A poll is lent a link that holds the piece, and the backends.
use Rattle.std.proofs.Common.{Ok, ◌≡◌, ◌∙◌, ◌++◌, List, ℕ, ap, subst, sym}
use Rattle.gw_poll.specs.Courses.{CanGoOn}
use Rattle.gw_poll.specs.declared.course.Course.{Course}
use Rattle.gw_polling.specs.PollMemory.{PollLinkState}
use Rattle.gw_conns.proofs.Lending.{IsLent, ends_served, lent_by, waits_served}
use Rattle.gw_conns.proofs.connection.poll.Goals as goal

pub poll-polled-requires-clause-going : goal.poll-polled-requires-clause-going
poll-polled-requires-clause-going c =
    subst (λ (x : Course). CanGoOn x c.lend.new.conn.up.up.at) (sym c.lend.ensures.course) (c.requires.idle.going c.lend.new.conn.up.up.at)

pub returns-in-Pending-clause-served : goal.returns-in-Pending-clause-served
returns-in-Pending-clause-served c = λ p bytes parts text at stands.
    let made = c.in_ok-link.ensures in
    let lent : IsLent c.args.conn.now c.lend.new.conn c.args.piece.now c.args.backends.now =
    lent_by c.lend.ensures.course c.lend.ensures.link c.lend.ensures.up made.left made.end made.unmarked made.written in
    let wrote = c.in_ok-extend_from_slice.ensures.items ∙ ap (λ (l : List ℕ). l ++ c.written.result.now) c.requires.none ∙ c.written.ensures
    ∙ ap (λ (l : PollLinkState). l.sink.written) (c.link.ensures.value ∙ c.take_back.ensures.link) in
    waits_served c.args.conn.now c.lend.new.conn c.poll-polled.new.self c.args.piece.now c.args.backends.now c.args.worker.now c.poll-polled.new.w lent c.requires.idle
    c.in-Pending.ensures.goes c.in-Pending.ensures.over c.poll-polled.ensures.unended c.take_back.ensures.course c.take_back.ensures.backends wrote
    c.in-Pending.ensures.used_up c.in-Pending.ensures.idle p bytes parts text at stands

pub returns-in-Ready-Ok-clause-served : goal.returns-in-Ready-Ok-clause-served
returns-in-Ready-Ok-clause-served c = λ p bytes parts text at stands.
    let made = c.in_ok-link.ensures in
    let lent : IsLent c.args.conn.now c.lend.new.conn c.args.piece.now c.args.backends.now =
    lent_by c.lend.ensures.course c.lend.ensures.link c.lend.ensures.up made.left made.end made.unmarked made.written in
    let wrote = c.in_ok-extend_from_slice.ensures.items ∙ ap (λ (l : List ℕ). l ++ c.written.result.now) c.requires.none ∙ c.written.ensures
    ∙ ap (λ (l : PollLinkState). l.sink.written) (c.link.ensures.value ∙ c.take_back.ensures.link) in
    let inner : c.in-Ready-Ok.field-0 ≡ Ok c.in-Ready-Ok.why = rw c.in-Ready-Ok.is at c.in-Ready-Ok.field-0-is in
    ends_served c.args.conn.now c.lend.new.conn c.poll-polled.new.self c.args.piece.now c.args.backends.now c.args.worker.now c.poll-polled.new.w lent c.requires.idle
    (rw inner at (rw c.in-Ready-Ok.is at c.poll-polled.ensures.goes)) (rw inner at (rw c.in-Ready-Ok.is at c.poll-polled.ensures.over)) c.poll-polled.ensures.unended c.take_back.ensures.course
    c.take_back.ensures.backends wrote c.in-Ready-Ok.why (rw inner at (rw c.in-Ready-Ok.is at c.poll-polled.ensures.ends)) p bytes parts text at stands
