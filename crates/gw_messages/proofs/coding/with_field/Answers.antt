-- The codings of one field.
use Rattle.std.proofs.Common.{ℕ, List, ◌∙◌, sym, ap, fold, filter}
use Rattle.gw_messages.specs.model.Values.{elements}
use Rattle.gw_text.specs.model.Fields.{Field}
use Rattle.gw_text.specs.model.Names.{is_given}
use Rattle.gw_messages.specs.Codings.{note}
use Rattle.gw_messages.proofs.CodingLists.{no_codings, own_codings}
use Rattle.gw_messages.proofs.coding.with_field.Goals as goal

pub returns-then-not-is_named : goal.returns-then-not-is_named
returns-then-not-is_named c = ap (fold note c.args.before) (sym (no_codings c.args.field.now cc))

pub returns : goal.returns
returns c = c.with_value.ensures ∙ ap (λ (v : List ℕ). fold note c.args.before (filter is_given (elements v))) (c.bytes.ensures ∙ ap (λ (f : Field). f.value) c.field.view_is) ∙ ap (fold note c.args.before) (sym (own_codings c.args.field.now cc))
