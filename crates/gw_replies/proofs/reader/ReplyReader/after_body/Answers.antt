-- What a body comes to.
use Rattle.std.proofs.Common.{◌++◌, ap, refl, subst, sym}
use Rattle.gw_messages.specs.model.Bodies.{bad_body, whole_body}
use Rattle.gw_messages.specs.Readings.{IsProgress}
use Rattle.gw_messages.specs.declared.body.Progress.{Progress}
use Rattle.gw_replies.specs.model.Responses.{a_fault}
use Rattle.gw_replies.specs.Replies.{IsOpen, with_body}
use Rattle.gw_replies.specs.declared.fault.BackendFault.{BackendFault}
use Rattle.gw_replies.specs.declared.reader.ReplyReader.{ReplyReader}
use Rattle.gw_replies.proofs.Replies.{goes_reads, step_after, step_done, step_failed, still_reads}
use Rattle.gw_replies.proofs.reader.ReplyReader.after_body.Goals as goal

pub returns-in-Bad : goal.returns-in-Bad
returns-in-Bad c = λ o r new before is progress.
    let bad = subst (λ (p : Progress). IsProgress r before new c.args.self.now.buffer p) c.in-Bad.is progress in
    step_failed _ c.fail.new.self c.fault_of.result _ (ap (λ (i : ReplyReader). i.over) c.fail.ensures.after) (ap (λ (i : ReplyReader). i.stage) c.fail.ensures.after) c.fail.ensures.step
    (λ next over future. (bad_body c.in-Bad.fault, bad next, ap (λ (f : BackendFault). a_fault f) c.fault_of.ensures))

pub returns-in-Part : goal.returns-in-Part
returns-in-Part c = λ o r new before is progress.
    let part = subst (λ (p : Progress). IsProgress r before new c.args.self.now.buffer p) c.in-Part.is progress in
    step_after _ c.args.self.now c.unfinished.new.self c.unfinished.result (goes_reads c.args.self.now o r new before is part.0)
    (c.unfinished.ensures (subst IsOpen (sym is) tt) (still_reads c.args.self.now o new is part.1))

pub returns-in-Whole : goal.returns-in-Whole
returns-in-Whole c = λ o r new before is progress.
    let whole = subst (λ (p : Progress). IsProgress r before new c.args.self.now.buffer p) c.in-Whole.is progress in
    step_done _ c.finish_body.new.self (with_body o.value c.in-Whole.content.items) _ (ap (λ (i : ReplyReader). i.over) c.finish_body.ensures.after) (ap (λ (i : ReplyReader). i.stage) c.finish_body.ensures.after)
    (c.finish_body.ensures.body o new is) (λ next over future. (whole_body c.in-Whole.content.items (c.args.self.now.buffer ++ next), whole next, refl))
