-- The cut at the first comma.
use Rattle.std.proofs.Common.{◌∙◌, sym}
use Rattle.std.proofs.lemmas.List.{take_rest}
use Rattle.gw_messages.proofs.Cutting.{cut_at, cut_nowhere}
use Rattle.gw_messages.specs.Elements.{is_comma}
use Rattle.gw_messages.proofs.element.first_element.Goals as goal

pub returns-in-Some-clause-cut : goal.returns-in-Some-clause-cut
returns-in-Some-clause-cut c = rw take_rest (cut_at is_comma _ _ (sym c.comma.ensures ∙ c.in-Some.is))

pub returns-in-None-clause-cut : goal.returns-in-None-clause-cut
returns-in-None-clause-cut c = cut_nowhere is_comma _ (sym c.comma.ensures ∙ c.in-None.is)
