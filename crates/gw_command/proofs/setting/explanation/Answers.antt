-- Bytes that are no request.
use Rattle.std.proofs.Common.{None, refl, ap, subst}
use Rattle.gw_requests.specs.Requests.{IsRequestOf}
use Rattle.gw_command.specs.Words.{ExplainWords}
use Rattle.gw_command.proofs.setting.explanation.Goals as goal

pub returns-in-Ok-None-clause-start : goal.returns-in-Ok-None-clause-start
returns-in-Ok-None-clause-start c =
    let given = rw (c.as_slice.ensures.value, c.in-Ok-None.field-0-is) at c.in-Ok-None.ensures in
    (None, subst (λ bytes. IsRequestOf bytes None) (ap (λ (w : ExplainWords). w.request) c.words.view_is) given, refl)
