-- The body asks a question, or it doesn't.
use Rattle.std.proofs.Common.{refl, None}
use Rattle.std.proofs.lemmas.Result.{IfOk-weaker}
use Rattle.gw_admin_texts.specs.declared.resource.Destination.TheVariants.{Found}
use Rattle.gw_admin_texts.specs.declared.resource.Resource.TheVariants.{Explain}
use Rattle.gw_lists.proofs.Beginnings.{begins_with-self}
use Rattle.gw_admin.proofs.Answering.{answered_by, answered_question, asked_over}
use Rattle.gw_admin.proofs.answer.explanation.Goals as goal

pub returns-in_default-clause-answered : goal.returns-in_default-clause-answered
returns-in_default-clause-answered c = λ moments.
    let none = rw c.in_default.is at c.in_ok-question.ensures in
    answered_by _ (Found Explain) c.args.body.now _ _ _ moments (asked_over None c.args.pass.now.seen) c.empty.ensures none (begins_with-self _) (begins_with-self _) refl

pub returns-clause-answered : goal.returns-clause-answered
returns-clause-answered c =
    let is = rw c.in-Some.is at c.in_ok-question.ensures in
    IfOk-weaker c.explained.result _ _ (λ reply e moments. answered_question _ c.args.body.now c.in-Some.question reply _ _ moments is e) c.explained.ensures.answered
