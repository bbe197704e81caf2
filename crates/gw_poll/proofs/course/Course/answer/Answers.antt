-- The reply is the turn behind the answer.
use Rattle.std.proofs.Common.{ap, arith, subst, sym}
use Rattle.gw_link.specs.Exchanges.{change_last}
use Rattle.gw_worker.specs.Conns.{IsSettled, with_answer}
use Rattle.gw_worker.specs.declared.conn.Conn.{Conn}
use Rattle.gw_poll.proofs.Beginning.{begun_reply, begun_writing, written_fewer, written_settled}
use Rattle.gw_poll.proofs.Keeping.{answered_next, fed_kept}
use Rattle.gw_poll.specs.Courses.{IsHeld, steps_left}
use Rattle.gw_poll.specs.declared.course.Course.{Course}
use Rattle.gw_poll.proofs.course.Course.answer.Goals as goal

pub next-requires-clause-answered : goal.next-requires-clause-answered
next-requires-clause-answered c = answered_next c.answer.new.self.stage c.answer.ensures.replying

pub returns-in-Ok-clause-replied : goal.returns-in-Ok-clause-replied
returns-in-Ok-clause-replied c = λ p bytes parts text s.
    begun_reply p (record c.args.self.now { conn = c.next.new.self }) c.begin.new.self c.in-Ok.turn c.begin.result bytes (change_last (with_answer c.args.answer) parts) text c.begin.ensures.begun
    (c.in-Ok.ensures.reply c.answer.ensures.replying p bytes (change_last (with_answer c.args.answer) parts) text (c.answer.ensures.stands p bytes parts text s))

pub returns-in-Ok-clause-writing : goal.returns-in-Ok-clause-writing
returns-in-Ok-clause-writing c =
    let writing = begun_writing (record c.args.self.now { conn = c.next.new.self }) c.begin.new.self c.in-Ok.turn c.begin.result c.begin.ensures.begun (c.in-Ok.ensures.writes c.answer.ensures.replying) in
    (writing.0.0, ap (λ (x : Course). x.stage) writing.0.1)

pub returns-in-Ok-clause-settled : goal.returns-in-Ok-clause-settled
returns-in-Ok-clause-settled c =
    subst (λ (x : Conn). IsSettled x.stage) (sym c.begin.ensures.conn) (written_settled c.in-Ok.turn c.next.new.self.stage (c.in-Ok.ensures.writes c.answer.ensures.replying) c.in-Ok.ensures.behind)

pub returns-in-Ok-clause-held : goal.returns-in-Ok-clause-held
returns-in-Ok-clause-held c = λ at.
    let writing = begun_writing (record c.args.self.now { conn = c.next.new.self }) c.begin.new.self c.in-Ok.turn c.begin.result c.begin.ensures.begun (c.in-Ok.ensures.writes c.answer.ensures.replying) in
    subst (λ (x : Course). IsHeld x.stage at) (sym writing.0.1) tt

pub returns-in-Ok-clause-done : goal.returns-in-Ok-clause-done
returns-in-Ok-clause-done c =
    (begun_writing (record c.args.self.now { conn = c.next.new.self }) c.begin.new.self c.in-Ok.turn c.begin.result c.begin.ensures.begun (c.in-Ok.ensures.writes c.answer.ensures.replying)).1

pub returns-in-Ok-clause-fewer : goal.returns-in-Ok-clause-fewer
returns-in-Ok-clause-fewer c = λ bytes fed.
    let writes = c.in-Ok.ensures.writes c.answer.ensures.replying in
    let writing = begun_writing (record c.args.self.now { conn = c.next.new.self }) c.begin.new.self c.in-Ok.turn c.begin.result c.begin.ensures.begun writes in
    let few = written_fewer c.in-Ok.turn _ _ writes (c.in-Ok.ensures.fewer bytes (fed_kept c.args.self.now.conn c.answer.new.self bytes c.answer.ensures.inlet fed)) in
    let after = ap steps_left writing.0.1 in
    omega (arith, few, after, c.answer.ensures.left)
