-- A size is announced.
use Rattle.std.proofs.Common.{sym, ◌∙◌, codes}
use Rattle.gw_messages.specs.model.Values.{number_of, values_of}
use Rattle.gw_replies.proofs.Lengths.{extent_by}
use Rattle.gw_replies.proofs.extent.extent_of.Goals as goal

pub returns-then-has_field-2 : goal.returns-then-has_field-2
returns-then-has_field-2 c = (
  number_of (values_of (codes "content-length") c.args.fields.now),
  extent_by c.args.fields.now (sym c.has_field.ensures ∙ c.if-has_field.false) (sym c.has_field-2.ensures ∙ c.if-has_field-2.true),
  c.announced_size.ensures,
)
