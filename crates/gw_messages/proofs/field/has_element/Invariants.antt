use Rattle.std.proofs.Common.{◌≡◌, drop}
use Rattle.gw_messages.specs.model.Values.{has_element, values_of}
use Rattle.gw_messages.proofs.field.has_element.Given as goal

abbrev pub invariant-fields : goal.invariant-fields
invariant-fields l = has_element l.word (values_of l.name l.fields) ≡ has_element l.word (values_of l.name (drop l.field-index l.fields))
