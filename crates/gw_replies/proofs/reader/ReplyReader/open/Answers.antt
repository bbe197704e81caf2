-- The bytes are no head.
use Rattle.std.proofs.Common.{ℕ, List, Option, None, ap, subst}
use Rattle.gw_replies.specs.model.Responses.{Head, IsHead}
use Rattle.gw_replies.specs.declared.fault.BackendFault.TheVariants as faults
use Rattle.gw_replies.specs.declared.reader.ReplyReader.{ReplyReader}
use Rattle.gw_replies.proofs.Replies.{head_bad, step_failed}
use Rattle.gw_replies.proofs.reader.ReplyReader.open.Goals as goal

pub returns-in-None-clause-step : goal.returns-in-None-clause-step
returns-in-None-clause-step c =
    step_failed c.args.self.now c.fail.new.self faults.Head _ (ap (λ (i : ReplyReader). i.over) c.fail.ensures.after) (ap (λ (i : ReplyReader). i.stage) c.fail.ensures.after) c.fail.ensures.step
    (head_bad c.args.self.now c.args.size c.requires.head c.requires.whole
    (subst (λ (b : List ℕ). IsHead b None) c.front.ensures (subst (λ (h : Option Head). IsHead c.front.result.now h) c.in-None.is c.in_ok-read_head.ensures)))
