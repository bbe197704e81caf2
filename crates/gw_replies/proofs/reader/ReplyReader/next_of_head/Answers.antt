-- A head that is too long, or isn't whole.
use Rattle.std.proofs.Common.{ℕ, List, ap, sym, subst, refl}
use Rattle.gw_messages.specs.model.Sections.{IsCut, ends_head, part_section}
use Rattle.gw_replies.specs.Replies.{IsOpen}
use Rattle.gw_replies.specs.declared.fault.BackendFault.TheVariants as faults
use Rattle.gw_replies.specs.declared.reader.ReplyReader.{ReplyReader}
use Rattle.gw_replies.proofs.Replies.{goes_same, head_long, head_unfinished, step_after, step_failed}
use Rattle.gw_replies.proofs.reader.ReplyReader.next_of_head.Goals as goal

pub returns-in-Long-clause-step : goal.returns-in-Long-clause-step
returns-in-Long-clause-step c =
    step_failed c.args.self.now c.fail.new.self faults.Head _ (ap (λ (i : ReplyReader). i.over) c.fail.ensures.after) (ap (λ (i : ReplyReader). i.stage) c.fail.ensures.after) c.fail.ensures.step
    (head_long c.args.self.now c.requires c.in-Long.ensures.found)

pub returns-in-Part-clause-step : goal.returns-in-Part-clause-step
returns-in-Part-clause-step c =
    step_after c.args.self.now _ c.unfinished.new.self c.unfinished.result
    (goes_same c.args.self.now _ refl refl refl refl refl c.find_head.ensures.same (subst IsOpen (sym c.requires) tt))
    (c.unfinished.ensures (subst IsOpen (sym c.requires) tt)
    (head_unfinished (record c.args.self.now { buffer = c.find_head.new.self }) c.requires (subst (λ (b : List ℕ). IsCut ends_head 16384 b part_section) (sym c.find_head.ensures.same) c.in-Part.ensures.found)))
