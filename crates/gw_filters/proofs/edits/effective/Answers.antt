-- Edits of nothing leave the fields as they are.
use Rattle.std.proofs.Common.{ap, sym, ◌∙◌}
use Rattle.gw_text.specs.model.Filters.{Edits}
use Rattle.gw_filters.specs.model.Editing.{edited}
use Rattle.gw_filters.proofs.Untouched.{nothing_changed}
use Rattle.gw_filters.proofs.edits.effective.Goals as goal

pub returns-then-is_empty : goal.returns-then-is_empty
returns-then-is_empty c fields =
    sym (ap (λ (e : Edits). edited e fields) (c.is_empty.ensures c.if-is_empty.true) ∙ nothing_changed fields)
