-- An exchange goes on, or is over.
use Rattle.std.proofs.Common.{◌++◌, [], Ok, Err, refl, sym, subst, arith}
use Rattle.gw_poll.proofs.Keeping.{done_both, done_map, failed_map, fed_kept, going_done}
use Rattle.gw_poll.proofs.Stepping.{gives_up_starved, gives_up_unanswered, goes_answered, goes_exchanging}
use Rattle.gw_poll.specs.Courses.{IsAtStage}
use Rattle.gw_poll.specs.declared.course.Stage.{Stage}
use Rattle.gw_poll.proofs.course.Course.exchange.Goals as goal

pub poll-requires-clause-begun : goal.poll-requires-clause-begun
poll-requires-clause-begun g c = c.requires.going.1.at.1

pub returns-in-Ready-Ok-clause-goes : goal.returns-in-Ready-Ok-clause-goes
returns-in-Ready-Ok-clause-goes g c = going_done c.answer.result c.answer.ensures.ready (λ replied p h left written f.
    goes_answered p c.args.self.now c.answer.new.self h c.args.exchange (Ok c.in-Ready-Ok.response) _ _ _ _ (g.U.PollUpstream.refuses c.args.up.now c.poll.new.up) c.args.w.now left written f
    (rw c.in-Ready-Ok.field-0-is at (c.in-Ready-Ok.ensures.over h.begun f.stage.2)) (rw c.in-Ready-Ok.field-0-is at c.in-Ready-Ok.ensures.cause) (rw c.in-Ready-Ok.field-0-is at c.in-Ready-Ok.ensures.refused)
    c.poll.ensures.later (replied p h.bytes (h.parts ++ h.asked) (h.text ++ []) f.conn) c.answer.ensures.inlet)
    c.answer.ensures.replied

pub returns-in-Ready-Ok-clause-broke : goal.returns-in-Ready-Ok-clause-broke
returns-in-Ready-Ok-clause-broke g c = failed_map c.answer.result (λ rows p h left written f.
    gives_up_unanswered p c.args.self.now c.answer.new.self h c.args.exchange (Ok c.in-Ready-Ok.response) _ _ _ _ (g.U.PollUpstream.refuses c.args.up.now c.poll.new.up) c.args.w.now left written f
    c.requires.going.1.at.0 rows c.answer.ensures.inlet (rw c.in-Ready-Ok.field-0-is at (c.in-Ready-Ok.ensures.over h.begun f.stage.2)) c.poll.ensures.later)
    c.answer.ensures.rows

pub returns-in-Ready-Ok-clause-going : goal.returns-in-Ready-Ok-clause-going
returns-in-Ready-Ok-clause-going g c = going_done c.answer.result c.answer.ensures.ready (λ both bytes going. record {
  fed = fed_kept c.args.self.now.conn c.answer.new.self.conn bytes c.answer.ensures.inlet going.fed;
  at = subst (λ (st : Stage). IsAtStage st c.answer.new.self.conn bytes) (sym both.1.1) (both.0, omega arith);
})
    (done_both _ _ c.answer.result c.answer.ensures.settled c.answer.ensures.writing)

pub returns-in-Ready-Ok-clause-held : goal.returns-in-Ready-Ok-clause-held
returns-in-Ready-Ok-clause-held g c = going_done c.answer.result c.answer.ensures.ready (λ held. held _) c.answer.ensures.held

pub returns-in-Ready-Ok-clause-fewer : goal.returns-in-Ready-Ok-clause-fewer
returns-in-Ready-Ok-clause-fewer g c = done_map c.answer.result (λ few bytes going. few bytes going.fed) c.answer.ensures.fewer

pub returns-in-Ready-Err-Backend-clause-goes : goal.returns-in-Ready-Err-Backend-clause-goes
returns-in-Ready-Err-Backend-clause-goes g c = going_done c.answer-in-Ready-Err-Backend.result c.answer-in-Ready-Err-Backend.ensures.ready (λ replied p h left written f.
    goes_answered p c.args.self.now c.answer-in-Ready-Err-Backend.new.self h c.args.exchange (Err c.in-Ready-Err-Backend.fault) _ _ _ _ (g.U.PollUpstream.refuses c.args.up.now c.poll.new.up) c.args.w.now left written f
    (rw c.in-Ready-Err-Backend.field-0-0-is at (rw c.in-Ready-Err-Backend.field-0-is at (c.in-Ready-Err-Backend.ensures.over h.begun f.stage.2))) (rw c.in-Ready-Err-Backend.field-0-0-is at (rw c.in-Ready-Err-Backend.field-0-is at c.in-Ready-Err-Backend.ensures.cause)) (rw c.in-Ready-Err-Backend.field-0-0-is at (rw c.in-Ready-Err-Backend.field-0-is at c.in-Ready-Err-Backend.ensures.refused))
    c.poll.ensures.later (replied p h.bytes (h.parts ++ h.asked) (h.text ++ []) f.conn) c.answer-in-Ready-Err-Backend.ensures.inlet)
    c.answer-in-Ready-Err-Backend.ensures.replied

pub returns-in-Ready-Err-Backend-clause-broke : goal.returns-in-Ready-Err-Backend-clause-broke
returns-in-Ready-Err-Backend-clause-broke g c = failed_map c.answer-in-Ready-Err-Backend.result (λ rows p h left written f.
    gives_up_unanswered p c.args.self.now c.answer-in-Ready-Err-Backend.new.self h c.args.exchange (Err c.in-Ready-Err-Backend.fault) _ _ _ _ (g.U.PollUpstream.refuses c.args.up.now c.poll.new.up) c.args.w.now left written f
    c.requires.going.1.at.0 rows c.answer-in-Ready-Err-Backend.ensures.inlet (rw c.in-Ready-Err-Backend.field-0-0-is at (rw c.in-Ready-Err-Backend.field-0-is at (c.in-Ready-Err-Backend.ensures.over h.begun f.stage.2))) c.poll.ensures.later)
    c.answer-in-Ready-Err-Backend.ensures.rows

pub returns-in-Ready-Err-Backend-clause-going : goal.returns-in-Ready-Err-Backend-clause-going
returns-in-Ready-Err-Backend-clause-going g c = going_done c.answer-in-Ready-Err-Backend.result c.answer-in-Ready-Err-Backend.ensures.ready (λ both bytes going. record {
  fed = fed_kept c.args.self.now.conn c.answer-in-Ready-Err-Backend.new.self.conn bytes c.answer-in-Ready-Err-Backend.ensures.inlet going.fed;
  at = subst (λ (st : Stage). IsAtStage st c.answer-in-Ready-Err-Backend.new.self.conn bytes) (sym both.1.1) (both.0, omega arith);
})
    (done_both _ _ c.answer-in-Ready-Err-Backend.result c.answer-in-Ready-Err-Backend.ensures.settled c.answer-in-Ready-Err-Backend.ensures.writing)

pub returns-in-Ready-Err-Backend-clause-held : goal.returns-in-Ready-Err-Backend-clause-held
returns-in-Ready-Err-Backend-clause-held g c = going_done c.answer-in-Ready-Err-Backend.result c.answer-in-Ready-Err-Backend.ensures.ready (λ held. held _) c.answer-in-Ready-Err-Backend.ensures.held

pub returns-in-Ready-Err-Backend-clause-fewer : goal.returns-in-Ready-Err-Backend-clause-fewer
returns-in-Ready-Err-Backend-clause-fewer g c = done_map c.answer-in-Ready-Err-Backend.result (λ few bytes going. few bytes going.fed) c.answer-in-Ready-Err-Backend.ensures.fewer

pub returns-in-Ready-Err-NoMemory-clause-broke : goal.returns-in-Ready-Err-NoMemory-clause-broke
returns-in-Ready-Err-NoMemory-clause-broke g c = λ p h left written f.
    gives_up_starved p c.args.self.now _ h c.args.exchange _ _ _ _ (g.U.PollUpstream.refuses c.args.up.now c.poll.new.up) c.args.w.now left written f
    c.requires.going.1.at.0 refl (rw c.in-Ready-Err-NoMemory.field-0-0-is at (rw c.in-Ready-Err-NoMemory.field-0-is at (c.in-Ready-Err-NoMemory.ensures.over h.begun f.stage.2))) c.poll.ensures.later

pub returns-clause-goes : goal.returns-clause-goes
returns-clause-goes g c = λ p h left written f.
    goes_exchanging p c.args.self.now _ h c.args.exchange c.poll.new.self _ _ _ _ (g.U.PollUpstream.refuses c.args.up.now c.poll.new.up) c.args.w.now left written f
    refl refl c.poll.ensures.to c.poll.ensures.bytes c.poll.ensures.head (c.in-Pending.ensures.on h.begun f.stage.2) c.poll.ensures.later

pub returns-clause-going : goal.returns-clause-going
returns-clause-going g c = λ bytes going.
    let on = c.in-Pending.ensures.on going.at.1.0 going.at.1.1 in
    record { fed = going.fed; at = (going.at.0, (on.met', on.stands)) }

pub returns-in-Ready-Ok-clause-up : goal.returns-in-Ready-Ok-clause-up
returns-in-Ready-Ok-clause-up g c =
    record { becomes = c.poll.ensures.goes; unmarked = c.poll.ensures.unmarked; same = c.poll.ensures.same; later = c.poll.ensures.later; waits = c.poll.ensures.waits.later }

pub returns-in-Ready-Err-Backend-clause-up : goal.returns-in-Ready-Err-Backend-clause-up
returns-in-Ready-Err-Backend-clause-up g c =
    record { becomes = c.poll.ensures.goes; unmarked = c.poll.ensures.unmarked; same = c.poll.ensures.same; later = c.poll.ensures.later; waits = c.poll.ensures.waits.later }

pub returns-in-Ready-Err-NoMemory-clause-up : goal.returns-in-Ready-Err-NoMemory-clause-up
returns-in-Ready-Err-NoMemory-clause-up g c =
    record { becomes = c.poll.ensures.goes; unmarked = c.poll.ensures.unmarked; same = c.poll.ensures.same; later = c.poll.ensures.later; waits = c.poll.ensures.waits.later }

pub returns-clause-up : goal.returns-clause-up
returns-clause-up g c =
    record { becomes = c.poll.ensures.goes; unmarked = c.poll.ensures.unmarked; same = c.poll.ensures.same; later = c.poll.ensures.later; waits = c.poll.ensures.waits.later }
