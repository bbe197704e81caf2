-- What a line does.
use Rattle.std.proofs.Common.{◌∙◌, [], length, Bool, IfErr, Result, append-nil, refl, string_bytes, sym, subst}
use Rattle.std.proofs.lemmas.Result.{on_ok_weaker}
use Rattle.gw_store.specs.Lines.{is_blank}
use Rattle.gw_script.specs.Steps.{Step}
use Rattle.gw_script.specs.declared.refusal.StepRefusal.{StepRefusal}
use Rattle.gw_replay.specs.Replays.{LineDone, SaidDone, SendsOn}
use Rattle.gw_replay.specs.States.{HaltsAt, site_of}
use Rattle.gw_replay.proofs.Stepping.{said_err, said_there, turns_so, without_moment, workers_are}
use Rattle.gw_replay.proofs.replay.Replay.line.Goals as goal

pub returns-then-is_blank-clause-does : goal.returns-then-is_blank-clause-does
returns-then-is_blank-clause-does g c = record {
  moments = [];
  in_turn = refl;
  done = record {
    site = refl;
    did = λ s k. record {
      state = s;
      text = [];
      does_so = subst (λ (b : Bool). LineDone b (site_of c.args.self.now) c.args.number c.args.line.now [] s s []) (sym (sym c.is_blank.ensures ∙ c.if-is_blank.true)) (refl, refl, refl);
      keeps = k;
      printed = sym (append-nil (string_bytes c.args.self.now.text));
    };
  };
}

pub returns-in-Ok-clause-does : goal.returns-in-Ok-clause-does
returns-in-Ok-clause-does g c = on_ok_weaker c.step.result (λ d. turns_so
    {Q = λ moments s s' text. LineDone (is_blank c.args.line.now) (site_of c.args.self.now) c.args.number c.args.line.now moments s s' text} _ _ c.args.self.now c.step.new.self
    (λ moments s s' text k done. subst (λ (b : Bool). LineDone b (site_of c.args.self.now) c.args.number c.args.line.now moments s s' text) (sym (sym c.is_blank.ensures ∙ c.if-is_blank.false))
    (subst (λ (said : Result Step StepRefusal). SaidDone (site_of c.args.self.now) c.args.number said moments s s' text)
    (sym (said_there c.len.result (length s.workers) c.doors-doors.result (length (site_of c.args.self.now).doors) c.args.line.now _
    (workers_are c.args.self.now s c.len.result k (c.len.ensures ∙ c.args.self.now.workers.ok.0)) c.doors-doors.ensures c.in-Ok.ensures.step)) done)) d) c.step.ensures.does

pub returns-in_ok-refuse_line-in-Err-clause-does : goal.returns-in_ok-refuse_line-in-Err-clause-does
returns-in_ok-refuse_line-in-Err-clause-does g c = without_moment
    {Q = λ moments s s' text. LineDone (is_blank c.args.line.now) (site_of c.args.self.now) c.args.number c.args.line.now moments s s' text} _ c.args.self.now c.refuse_line.new.self
    (λ s s' text k done. subst (λ (b : Bool). LineDone b (site_of c.args.self.now) c.args.number c.args.line.now [] s s' text) (sym (sym c.is_blank.ensures ∙ c.if-is_blank.false))
    (subst (λ (said : Result Step StepRefusal). SaidDone (site_of c.args.self.now) c.args.number said [] s s' text)
    (sym (said_there c.len.result (length s.workers) c.doors-doors.result (length (site_of c.args.self.now).doors) c.args.line.now _
    (workers_are c.args.self.now s c.len.result k (c.len.ensures ∙ c.args.self.now.workers.ok.0)) c.doors-doors.ensures (said_err _ c.in-Err.refusal c.in-Err.ensures.step c.in_ok-refuse_line-in-Err.ensures.named))) (refl, done))) c.in_ok-refuse_line-in-Err.ensures.does

pub returns-in-Ok-clause-stops : goal.returns-in-Ok-clause-stops
returns-in-Ok-clause-stops g c =
    subst (λ (said : Result Step StepRefusal). IfErr c.step.result (λ stop. HaltsAt stop (λ s. SendsOn said s.clients) c.args.self.now c.step.new.self))
    (sym (said_there c.len.result (length c.args.self.now.workers.items) c.doors-doors.result (length (site_of c.args.self.now).doors) c.args.line.now _
    (c.len.ensures ∙ c.args.self.now.workers.ok.0) c.doors-doors.ensures c.in-Ok.ensures.step)) c.step.ensures.stops
