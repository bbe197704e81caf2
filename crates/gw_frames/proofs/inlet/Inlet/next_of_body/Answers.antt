-- A body that is read.
use Rattle.std.proofs.Common.{ap, sym, subst, refl}
use Rattle.gw_frames.specs.Inlets.{Goes, fresh}
use Rattle.gw_frames.specs.declared.inlet.Inlet.{Inlet}
use Rattle.gw_frames.specs.declared.inlet.Stage.{Stage}
use Rattle.gw_frames.proofs.Inlets.{goes_to_close}
use Rattle.gw_frames.proofs.inlet.Inlet.next_of_body.Goals as goal

pub returns-in_ok-progress-in-Body-clause-goes : goal.returns-in_ok-progress-in-Body-clause-goes
returns-in_ok-progress-in-Body-clause-goes c =
    let progress = c.in_ok-progress-in-Body.ensures.progress in
    let is = c.in-Body.is in
    let reading = c.in-Body.reading-is in
    subst (λ (s : Stage). Goes (record c.args.self.now { stage = s }) c.after_body.new.self (fresh s c.after_body.result)) (sym is)
    (c.after_body.ensures.goes c.in-Body.field-0 c.in-Body.reading c.read.new.self c.args.self.now.buffer refl progress)

pub returns-in-Closing-clause-goes : goal.returns-in-Closing-clause-goes
returns-in-Closing-clause-goes c =
    let closing = c.in-Closing.is in
    let goes = goes_to_close c.args.self.now c.end.new.self c.in-Closing.ended _ closing (ap (λ (i : Inlet). i.over) c.end.ensures.after) (ap (λ (i : Inlet). i.stage) c.end.ensures.after) c.end.ensures.step in
    subst (λ (s : Stage). Goes c.args.self.now c.end.new.self (fresh s c.end.result)) (sym closing) goes

pub returns-in_ok-progress-in-Body-clause-need : goal.returns-in_ok-progress-in-Body-clause-need
returns-in_ok-progress-in-Body-clause-need c =
    c.after_body.ensures.need c.in-Body.field-0 c.in-Body.reading c.read.new.self c.args.self.now.buffer refl c.in_ok-progress-in-Body.ensures.progress
