-- The bytes are no request.
use Rattle.std.proofs.Common.{◌∙◌, sym, ap, subst, None}
use Rattle.gw_requests.specs.Requests.{IsRequestOf}
use Rattle.gw_admin_texts.specs.model.Questions.{Asking}
use Rattle.gw_admin_texts.proofs.Explaining.{no_question}
use Rattle.gw_admin_texts.proofs.explanation.Question.of.Goals as goal

pub returns : goal.returns
returns c =
    let none = rw (c.as_slice.ensures.value, c.in-None.is) at c.in_ok-request.ensures in
    no_question c.args.body.now _ _ (sym c.in_ok-asking.ensures ∙ c.in-Some.is) (subst (λ bytes. IsRequestOf bytes None) (ap (λ (a : Asking). a.bytes) c.asking.view_is) none)
