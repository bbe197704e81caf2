-- The bytes end inside the response, or more are needed.
use Rattle.std.proofs.Common.{ap}
use Rattle.gw_replies.specs.declared.fault.BackendFault.TheVariants as faults
use Rattle.gw_replies.specs.declared.reader.ReplyReader.{ReplyReader}
use Rattle.gw_replies.proofs.Replies.{cut_ends, needs, step_failed}
use Rattle.gw_replies.proofs.reader.ReplyReader.unfinished.Goals as goal

pub returns-then-self : goal.returns-then-self
returns-then-self c = λ is_open part.
    step_failed c.args.self.now c.fail.new.self faults.Cut _ (ap (λ (i : ReplyReader). i.over) c.fail.ensures.after) (ap (λ (i : ReplyReader). i.stage) c.fail.ensures.after) c.fail.ensures.step
    (cut_ends c.args.self.now c.if-self.true part)

pub returns : goal.returns
returns c = λ is_open part. needs c.args.self.now is_open c.if-self.false part
