-- What the head is.
use Rattle.std.proofs.Common.{[], ap, sym, ◌∙◌, subst, ℕ, ◌<◌, List, length}
use Rattle.gw_replies.specs.Replies.{seen}
use Rattle.gw_replies.specs.model.Responses.{a_response, Response, response_of}
use Rattle.gw_replies.specs.declared.fault.BackendFault.TheVariants as faults
use Rattle.gw_replies.specs.declared.reader.ReplyReader.{ReplyReader}
use Rattle.gw_replies.proofs.Replies.{few_bytes, fewer_left, goes_past, head_bodiless, head_misframed, head_refused, step_done, step_failed}
use Rattle.gw_replies.proofs.reader.ReplyReader.take_head.Goals as goal

pub returns-in-Refused-clause-step : goal.returns-in-Refused-clause-step
returns-in-Refused-clause-step c =
    step_failed c.args.self.now c.fail.new.self faults.Head _ (ap (λ (i : ReplyReader). i.over) c.fail.ensures.after) (ap (λ (i : ReplyReader). i.stage) c.fail.ensures.after) c.fail.ensures.step
    (head_refused c.args.self.now c.args.size c.args.head c.requires.head c.requires.whole c.requires.reads c.in-Refused.ensures)

pub returns-in-Misframed-clause-step : goal.returns-in-Misframed-clause-step
returns-in-Misframed-clause-step c =
    step_failed c.args.self.now c.fail-in-Misframed.new.self faults.Body _ (ap (λ (i : ReplyReader). i.over) c.fail-in-Misframed.ensures.after) (ap (λ (i : ReplyReader). i.stage) c.fail-in-Misframed.ensures.after) c.fail-in-Misframed.ensures.step
    (head_misframed c.args.self.now c.args.size c.args.head c.requires.head c.requires.whole c.requires.reads c.in-Misframed.ensures)

pub returns-in_ok-response-in-Bodiless-clause-step : goal.returns-in_ok-response-in-Bodiless-clause-step
returns-in_ok-response-in-Bodiless-clause-step c =
    step_done c.args.self.now c.give.new.self (response_of c.args.head []) _ (ap (λ (i : ReplyReader). i.over) c.give.ensures.after) (ap (λ (i : ReplyReader). i.stage) c.give.ensures.after)
    (ap seen c.give.ensures.step ∙ ap (λ (r : Response). a_response r) c.in_ok-response-in-Bodiless.ensures)
    (head_bodiless c.args.self.now c.args.size c.args.head c.requires.head c.requires.whole c.requires.reads c.in-Bodiless.ensures)

pub pass-requires-clause-size : goal.pass-requires-clause-size
pass-requires-clause-size c = (c.requires.whole.0, few_bytes c.args.self.now.buffer c.args.size c.requires.whole)

pub returns-in-Interim-clause-goes : goal.returns-in-Interim-clause-goes
returns-in-Interim-clause-goes c = λ e.
    goes_past c.args.self.now c.pass.new.self c.args.size c.args.head c.requires.head c.requires.whole c.requires.reads c.in-Interim.ensures
    c.pass.ensures.over c.pass.ensures.to_head (c.pass.ensures.stage ∙ c.requires.head) c.pass.ensures.interims c.pass.ensures.taken c.pass.ensures.buffer

pub returns-in-Interim-clause-smaller : goal.returns-in-Interim-clause-smaller
returns-in-Interim-clause-smaller c = λ e.
    subst (λ (b : List ℕ). length b < length c.args.self.now.buffer) (sym c.pass.ensures.buffer) (fewer_left c.args.self.now.buffer c.args.size c.requires.whole)

pub returns-in_ok-open_body-in-Bodied-clause-smaller : goal.returns-in_ok-open_body-in-Bodied-clause-smaller
returns-in_ok-open_body-in-Bodied-clause-smaller c = λ e.
    subst (λ (b : List ℕ). length b < length c.args.self.now.buffer) (sym c.in_ok-open_body-in-Bodied.ensures.buffer) (fewer_left c.args.self.now.buffer c.args.size c.requires.whole)
