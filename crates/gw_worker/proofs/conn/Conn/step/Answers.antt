-- What each step comes to.
use Rattle.std.proofs.Common.{◌<◌, ◌≤◌, List, [], ◌∷◌, ◌++◌, map, refl, sym, ap, subst, IfOk, Result, append-nil, inl}
use Rattle.std.proofs.lemmas.Result.{on_err_weaker}
use Rattle.gw_answers.proofs.Left.{on_err}
use Rattle.gw_frames.specs.Inlets.{StandsFor as InletStandsFor, steps_left}
use Rattle.gw_frames.specs.declared.inlet.Inlet.{Inlet}
use Rattle.gw_frames.specs.declared.step.Step.TheVariants as steps
use Rattle.gw_frames.specs.model.Requests.{Step, a_break, a_continue, a_refusal, an_ask, an_end}
use Rattle.gw_worker.proofs.Serving.{continues_alone, continues_with, ok_with}
use Rattle.gw_worker.proofs.Staying.{pass_self}
use Rattle.gw_worker.proofs.Stepping.{Steps, active_no_need, behind_step, end_leaves, end_no_need, goes_by_same, goes_by_step, leaves_fewer, leaves_none, says_need, stands_still, still_open}
use Rattle.gw_snap.specs.declared.fault.OpenFault.{OpenFault}
use Rattle.gw_worker.specs.Turns.{IsActive}
use Rattle.gw_worker.specs.declared.conn.Conn.{Conn}
use Rattle.gw_worker.specs.declared.conn.Turn.{Turn}
use Rattle.gw_worker.specs.declared.conn.Turn.TheVariants as turns
use Rattle.gw_worker.specs.model.Sessions.{a_close, a_cut, a_refused, a_wait, step_of}
use Rattle.gw_worker.proofs.conn.Conn.step.Goals as goal

pub returns-in_err-next-clause-inlet : goal.returns-in_err-next-clause-inlet
returns-in_err-next-clause-inlet c = goes_by_same c.args.self.now.inlet c.next.new.self c.in_err-next.ensures.err

pub returns-in-Need-clause-goes : goal.returns-in-Need-clause-goes
returns-in-Need-clause-goes c = λ p bytes parts text at s.
    let stands : Steps c.args.self.now.inlet c.next.new.self steps.Need = rw c.in-Need.is at c.in_ok-next.ensures.stands in
    continues_alone p c.args.w.now _ bytes parts text turns.Need
    (stands_still c.args.self.now c.next.new.self p bytes parts text stands c.requires.reading s)
    (says_need c.args.self.now _ p bytes parts text (rw c.in-Need.is at c.in_ok-next.ensures.all) c.requires.reading s)

pub returns-in-Need-clause-unfinished : goal.returns-in-Need-clause-unfinished
returns-in-Need-clause-unfinished c = λ is bytes fed.
    still_open c.args.self.now.inlet c.next.new.self bytes fed.0 fed.1 (rw c.in-Need.is at c.in_ok-next.ensures.all) (rw c.in-Need.is at c.in_ok-next.ensures.stays)

pub returns-in-Need-clause-inlet : goal.returns-in-Need-clause-inlet
returns-in-Need-clause-inlet c = goes_by_step c.args.self.now.inlet c.next.new.self c.next.new.self _ c.in_ok-next.ensures.stands refl

pub returns-in_ok-announce-in-Continue-clause-goes : goal.returns-in_ok-announce-in-Continue-clause-goes
returns-in_ok-announce-in-Continue-clause-goes c = λ p bytes parts text at s.
    continues_with p c.args.w.now _ bytes parts text a_wait _ refl tt
    (c.in_ok-announce-in-Continue.ensures.came p bytes parts text
    (behind_step c.args.self.now c.next.new.self steps.Continue a_continue p bytes parts text (rw c.in-Continue.is at c.in_ok-next.ensures.stands) refl c.requires.reading s))

pub returns-in_ok-announce-in-Continue-clause-unfinished : goal.returns-in_ok-announce-in-Continue-clause-unfinished
returns-in_ok-announce-in-Continue-clause-unfinished c = λ is bytes fed. absurd (active_no_need _ c.in_ok-announce-in-Continue.ensures.active is)

pub returns-in_ok-announce-in-Continue-clause-fewer : goal.returns-in_ok-announce-in-Continue-clause-fewer
returns-in_ok-announce-in-Continue-clause-fewer c = λ bytes fed.
    let less = rw c.in-Continue.is at (c.in_ok-next.ensures.fewer bytes fed.0 fed.1) in
    leaves_fewer c.args.self.now c.announce.new.self _ c.requires.reading
    (subst (λ (k : Conn). steps_left k.inlet < steps_left c.args.self.now.inlet) (sym c.in_ok-announce-in-Continue.ensures.same) less)

pub returns-in_ok-announce-in-Continue-clause-inlet : goal.returns-in_ok-announce-in-Continue-clause-inlet
returns-in_ok-announce-in-Continue-clause-inlet c =
    goes_by_step c.args.self.now.inlet c.next.new.self c.announce.new.self.inlet _ c.in_ok-next.ensures.stands (ap (λ (k : Conn). k.inlet) c.in_ok-announce-in-Continue.ensures.same)

pub returns-in_err-announce-in-Continue-clause-inlet : goal.returns-in_err-announce-in-Continue-clause-inlet
returns-in_err-announce-in-Continue-clause-inlet c =
    goes_by_step c.args.self.now.inlet c.next.new.self c.announce.new.self.inlet _ c.in_ok-next.ensures.stands (ap (λ (k : Conn). k.inlet) c.in_err-announce-in-Continue.ensures.same)

pub returns-in-Ask-clause-goes : goal.returns-in-Ask-clause-goes
returns-in-Ask-clause-goes c = ok_with c.handle.result (λ turn goes p bytes parts text at s.
    goes p bytes parts text at
    (rw c.deref.ensures (behind_step c.args.self.now c.next.new.self (steps.Ask c.in-Ask.request) (an_ask c.in-Ask.request.value) p bytes parts text (rw c.in-Ask.is at c.in_ok-next.ensures.stands) refl c.requires.reading s)))
    c.handle.ensures.goes

pub returns-in-Ask-clause-unfinished : goal.returns-in-Ask-clause-unfinished
returns-in-Ask-clause-unfinished c = λ is bytes fed. absurd (subst (λ (r : Result Turn OpenFault). IfOk r IsActive) is c.handle.ensures.active)

pub returns-in-Ask-clause-fewer : goal.returns-in-Ask-clause-fewer
returns-in-Ask-clause-fewer c = ok_with c.handle.result (λ turn active bytes fed.
    let less = rw c.in-Ask.is at (c.in_ok-next.ensures.fewer bytes fed.0 fed.1) in
    leaves_fewer c.args.self.now c.handle.new.self turn c.requires.reading
    (subst (λ (k : Inlet). steps_left k < steps_left c.args.self.now.inlet) (sym c.handle.ensures.inlet) less))
    c.handle.ensures.active

pub returns-in-Ask-clause-inlet : goal.returns-in-Ask-clause-inlet
returns-in-Ask-clause-inlet c = goes_by_step c.args.self.now.inlet c.next.new.self c.handle.new.self.inlet _ c.in_ok-next.ensures.stands c.handle.ensures.inlet

pub returns-in_ok-refuse-in-Bad-clause-goes : goal.returns-in_ok-refuse-in-Bad-clause-goes
returns-in_ok-refuse-in-Bad-clause-goes c = λ p bytes parts text at s.
    continues_with p c.args.w.now _ bytes parts text (a_refused c.in-Bad.code) _ refl tt
    (c.in_ok-refuse-in-Bad.ensures.came p bytes parts text
    (behind_step c.args.self.now c.next.new.self (steps.Bad c.in-Bad.code) (a_refusal c.in-Bad.code) p bytes parts text (rw c.in-Bad.is at c.in_ok-next.ensures.stands) refl c.requires.reading s))

pub returns-in_ok-refuse-in-Bad-clause-fewer : goal.returns-in_ok-refuse-in-Bad-clause-fewer
returns-in_ok-refuse-in-Bad-clause-fewer c = λ bytes fed.
    let less = rw c.in-Bad.is at (c.in_ok-next.ensures.fewer bytes fed.0 fed.1) in
    leaves_none c.args.self.now c.refuse.new.self _ _ c.requires.reading (ap (λ (k : Conn). k.stage) c.in_ok-refuse-in-Bad.ensures.after)
    (subst (λ (k : Conn). steps_left k.inlet ≤ steps_left c.args.self.now.inlet) (sym c.in_ok-refuse-in-Bad.ensures.after) less)

pub returns-in_ok-refuse-in-Bad-clause-inlet : goal.returns-in_ok-refuse-in-Bad-clause-inlet
returns-in_ok-refuse-in-Bad-clause-inlet c =
    goes_by_step c.args.self.now.inlet c.next.new.self c.refuse.new.self.inlet _ c.in_ok-next.ensures.stands (ap (λ (k : Conn). k.inlet) c.in_ok-refuse-in-Bad.ensures.after)

pub returns-in_err-refuse-in-Bad-clause-inlet : goal.returns-in_err-refuse-in-Bad-clause-inlet
returns-in_err-refuse-in-Bad-clause-inlet c =
    goes_by_step c.args.self.now.inlet c.next.new.self c.refuse.new.self.inlet _ c.in_ok-next.ensures.stands (ap (λ (k : Conn). k.inlet) c.in_err-refuse-in-Bad.ensures.err)

pub returns-in-End-clause-goes : goal.returns-in-End-clause-goes
returns-in-End-clause-goes c = λ p bytes parts text at s.
    continues_with p c.args.w.now _ bytes parts text a_close _ refl tt
    (c.end_by.ensures.close p bytes parts text
    (behind_step c.args.self.now c.next.new.self steps.End an_end p bytes parts text (rw c.in-End.is at c.in_ok-next.ensures.stands) refl c.requires.reading s))

pub returns-in-End-clause-unfinished : goal.returns-in-End-clause-unfinished
returns-in-End-clause-unfinished c = λ is bytes fed. absurd (end_no_need _ c.end_by.ensures.turn.0 c.end_by.ensures.turn.1 is)

pub returns-in-End-clause-fewer : goal.returns-in-End-clause-fewer
returns-in-End-clause-fewer c = λ bytes fed. end_leaves _ c.end_by.ensures.turn.0 _ _ c.end_by.ensures.turn.1

pub returns-in-End-clause-inlet : goal.returns-in-End-clause-inlet
returns-in-End-clause-inlet c = goes_by_step c.args.self.now.inlet c.next.new.self c.end_by.new.self.inlet _ c.in_ok-next.ensures.stands c.end_by.ensures.inlet

pub returns-in-Truncated-clause-goes : goal.returns-in-Truncated-clause-goes
returns-in-Truncated-clause-goes c = λ p bytes parts text at s.
    continues_with p c.args.w.now _ bytes parts text a_cut _ refl tt
    (c.end_by-in-Truncated.ensures.cut p bytes parts text
    (behind_step c.args.self.now c.next.new.self steps.Truncated a_break p bytes parts text (rw c.in-Truncated.is at c.in_ok-next.ensures.stands) refl c.requires.reading s))

pub returns-in-Truncated-clause-unfinished : goal.returns-in-Truncated-clause-unfinished
returns-in-Truncated-clause-unfinished c = λ is bytes fed. absurd (end_no_need _ c.end_by-in-Truncated.ensures.turn.0 c.end_by-in-Truncated.ensures.turn.1 is)

pub returns-in-Truncated-clause-fewer : goal.returns-in-Truncated-clause-fewer
returns-in-Truncated-clause-fewer c = λ bytes fed. end_leaves _ c.end_by-in-Truncated.ensures.turn.0 _ _ c.end_by-in-Truncated.ensures.turn.1

pub returns-in-Truncated-clause-inlet : goal.returns-in-Truncated-clause-inlet
returns-in-Truncated-clause-inlet c = goes_by_step c.args.self.now.inlet c.next.new.self c.end_by-in-Truncated.new.self.inlet _ c.in_ok-next.ensures.stands c.end_by-in-Truncated.ensures.inlet

pub returns-in_err-next-clause-err : goal.returns-in_err-next-clause-err
returns-in_err-next-clause-err c = on_err c.from_residual.result (λ p bytes parts text at s. record {
  steps = [];
  inlet = subst (λ (l : List Step). InletStandsFor c.next.new.self bytes l) (sym (append-nil (map step_of parts))) (c.in_err-next.ensures.err bytes (map step_of parts) s.inlet);
  left = (refl, refl);
})

pub returns-in_err-announce-in-Continue-clause-err : goal.returns-in_err-announce-in-Continue-clause-err
returns-in_err-announce-in-Continue-clause-err c = on_err c.from_residual-in_err-announce-in-Continue.result (λ p bytes parts text at s. record {
  steps = a_continue ∷ [];
  inlet = subst (λ (k : Conn). InletStandsFor k.inlet bytes (map step_of parts ++ a_continue ∷ [])) (sym c.in_err-announce-in-Continue.ensures.same)
      (behind_step c.args.self.now c.next.new.self steps.Continue a_continue p bytes parts text (rw c.in-Continue.is at c.in_ok-next.ensures.stands) refl c.requires.reading s).inlet;
  left = (refl, refl);
})

pub returns-in-Ask-clause-err : goal.returns-in-Ask-clause-err
returns-in-Ask-clause-err c = on_err_weaker c.handle.result (λ left p bytes parts text at s. record {
  steps = an_ask c.deref.result.now ∷ [];
  inlet = subst (λ (k : Inlet). InletStandsFor k bytes (map step_of parts ++ an_ask c.deref.result.now ∷ [])) (sym c.handle.ensures.inlet)
      (rw c.deref.ensures (behind_step c.args.self.now c.next.new.self (steps.Ask c.in-Ask.request) (an_ask c.in-Ask.request.value) p bytes parts text (rw c.in-Ask.is at c.in_ok-next.ensures.stands) refl c.requires.reading s).inlet);
  left = record { left = left p at (sym s.door); once = inl refl };
}) c.handle.ensures.err

pub returns-in_err-refuse-in-Bad-clause-err : goal.returns-in_err-refuse-in-Bad-clause-err
returns-in_err-refuse-in-Bad-clause-err c = on_err c.from_residual-in_err-refuse-in-Bad.result (λ p bytes parts text at s. record {
  steps = a_refusal c.in-Bad.code ∷ [];
  inlet = subst (λ (k : Conn). InletStandsFor k.inlet bytes (map step_of parts ++ a_refusal c.in-Bad.code ∷ [])) (sym c.in_err-refuse-in-Bad.ensures.err)
      (behind_step c.args.self.now c.next.new.self (steps.Bad c.in-Bad.code) (a_refusal c.in-Bad.code) p bytes parts text (rw c.in-Bad.is at c.in_ok-next.ensures.stands) refl c.requires.reading s).inlet;
  left = (refl, refl);
})

pub returns-in_err-next-clause-pass : goal.returns-in_err-next-clause-pass
returns-in_err-next-clause-pass c = pass_self _

pub returns-in-Need-clause-pass : goal.returns-in-Need-clause-pass
returns-in-Need-clause-pass c = pass_self _

pub returns-in_ok-announce-in-Continue-clause-pass : goal.returns-in_ok-announce-in-Continue-clause-pass
returns-in_ok-announce-in-Continue-clause-pass c = pass_self _

pub returns-in_err-announce-in-Continue-clause-pass : goal.returns-in_err-announce-in-Continue-clause-pass
returns-in_err-announce-in-Continue-clause-pass c = pass_self _

pub returns-in_ok-refuse-in-Bad-clause-pass : goal.returns-in_ok-refuse-in-Bad-clause-pass
returns-in_ok-refuse-in-Bad-clause-pass c = pass_self _

pub returns-in_err-refuse-in-Bad-clause-pass : goal.returns-in_err-refuse-in-Bad-clause-pass
returns-in_err-refuse-in-Bad-clause-pass c = pass_self _

pub returns-in-End-clause-pass : goal.returns-in-End-clause-pass
returns-in-End-clause-pass c = pass_self _

pub returns-in-Truncated-clause-pass : goal.returns-in-Truncated-clause-pass
returns-in-Truncated-clause-pass c = pass_self _
