-- By what comes next.
use Rattle.std.proofs.Common.{◌+◌, ◌*◌, List, [], ◌++◌, map, refl, sym, ap, subst, ◌∙◌, append-nil}
use Rattle.gw_answers.proofs.Left.{on_err}
use Rattle.gw_frames.specs.Inlets.{StandsFor as InletStandsFor, steps_left}
use Rattle.gw_frames.specs.model.Requests.{Step}
use Rattle.gw_worker.proofs.Serving.{continues_alone, ended_again, ok_with, replied}
use Rattle.gw_worker.specs.Conns.{turns_left, turns_of}
use Rattle.gw_worker.specs.Turns.{Continues, IsReply, IsWrite, LeavesFewer}
use Rattle.gw_worker.specs.declared.conn.Conn.{Conn}
use Rattle.gw_worker.specs.declared.conn.Stage.{Stage}
use Rattle.gw_worker.specs.declared.conn.Turn.TheVariants as turns
use Rattle.gw_worker.specs.model.Sessions.{step_of}
use Rattle.gw_worker.proofs.conn.Conn.next.Goals as goal

pub returns-in-Reading-clause-fewer : goal.returns-in-Reading-clause-fewer
returns-in-Reading-clause-fewer c = ok_with c.step.result (λ turn fewer bytes fed.
    subst (λ (st : Stage). LeavesFewer turn (turns_left c.step.new.self) (2 * steps_left c.args.self.now.inlet + turns_of st))
    (c.replace.ensures.after ∙ sym c.in-Reading.is ∙ c.replace.ensures.value) (fewer bytes fed))
    c.step.ensures.fewer

pub returns-in_ok-reply-in-Answered-clause-goes : goal.returns-in_ok-reply-in-Answered-clause-goes
returns-in_ok-reply-in-Answered-clause-goes c = λ p bytes parts text at s.
    let so = c.in_ok-reply-in-Answered.ensures in
    subst (Continues p c.args.w.now c.args.w.now c.reply.new.self bytes parts text) (sym so.text)
    (continues_alone p c.args.w.now c.reply.new.self bytes parts text (turns.Write _)
    (replied c.args.self.now c.reply.new.self c.in-Answered.asked c.in-Answered.answer p bytes parts text s (sym c.replace.ensures.value ∙ c.in-Answered.is)
    (ap (λ (k : Conn). k.door) so.rows) (ap (λ (k : Conn). k.inlet) so.rows) (ap (λ (k : Conn). k.stage) so.rows ∙ c.replace.ensures.after) (ap (λ (k : Conn). k.rows) so.rows)) tt)

pub returns-in_ok-reply-in-Answered-clause-reply : goal.returns-in_ok-reply-in-Answered-clause-reply
returns-in_ok-reply-in-Answered-clause-reply c = λ is p bytes parts text s.
    let so = c.in_ok-reply-in-Answered.ensures in
    subst (IsReply p c.reply.new.self bytes parts text) (sym so.text)
    (replied c.args.self.now c.reply.new.self c.in-Answered.asked c.in-Answered.answer p bytes parts text s (sym c.replace.ensures.value ∙ c.in-Answered.is)
    (ap (λ (k : Conn). k.door) so.rows) (ap (λ (k : Conn). k.inlet) so.rows) (ap (λ (k : Conn). k.stage) so.rows ∙ c.replace.ensures.after) (ap (λ (k : Conn). k.rows) so.rows))

pub returns-in-Ended-clause-goes : goal.returns-in-Ended-clause-goes
returns-in-Ended-clause-goes c = λ p bytes parts text at s.
    subst (Continues p c.args.w.now c.args.w.now c.end.new.self bytes parts text) (sym c.end.ensures.turn)
    (ended_again c.args.w.now c.args.self.now c.end.new.self c.in-Ended.why p bytes parts text s (sym c.replace.ensures.value ∙ c.in-Ended.is) c.end.ensures.after)

pub returns-in_ok-reply-in-Answered-clause-writes : goal.returns-in_ok-reply-in-Answered-clause-writes
returns-in_ok-reply-in-Answered-clause-writes c = λ is. subst IsWrite (sym c.in_ok-reply-in-Answered.ensures.text) tt

pub returns-in_err-reply-in-Answered-clause-err : goal.returns-in_err-reply-in-Answered-clause-err
returns-in_err-reply-in-Answered-clause-err c = on_err c.from_residual.result (λ p bytes parts text at s. record {
  steps = [];
  inlet = subst (λ (k : Conn). InletStandsFor k.inlet bytes (map step_of parts ++ [])) (sym c.in_err-reply-in-Answered.ensures.err)
      (subst (λ (l : List Step). InletStandsFor c.args.self.now.inlet bytes l) (sym (append-nil (map step_of parts))) s.inlet);
  left = (refl, refl);
})
