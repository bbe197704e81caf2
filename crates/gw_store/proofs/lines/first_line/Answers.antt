-- The cut at the first line feed.
use Rattle.std.proofs.Common.{◌∙◌, sym}
use Rattle.std.proofs.lemmas.List.{take_rest}
use Rattle.gw_store.proofs.Cutting.{cut_at, cut_nowhere}
use Rattle.gw_store.specs.Lines.{is_line_end}
use Rattle.gw_store.proofs.lines.first_line.Goals as goal

pub returns-in-Some-clause-cut : goal.returns-in-Some-clause-cut
returns-in-Some-clause-cut c = rw take_rest (cut_at is_line_end _ _ (sym c.line_end.ensures ∙ c.in-Some.is))

pub returns-in-None-clause-cut : goal.returns-in-None-clause-cut
returns-in-None-clause-cut c = cut_nowhere is_line_end _ (sym c.line_end.ensures ∙ c.in-None.is)
