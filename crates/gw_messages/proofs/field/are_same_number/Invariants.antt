use Rattle.std.proofs.Common.{◌≡◌, drop}
use Rattle.std.specs.List.{list_all}
use Rattle.gw_messages.specs.model.Values.{is_same_number, values_of}
use Rattle.gw_messages.proofs.field.are_same_number.Given as goal

abbrev pub invariant-fields : goal.invariant-fields
invariant-fields l = list_all (is_same_number l.first) (values_of l.name l.fields) ≡ list_all (is_same_number l.first) (values_of l.name (drop l.field-index l.fields))
