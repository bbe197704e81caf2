use Rattle.std.proofs.Common.{take}
use Rattle.gw_messages.specs.model.Values.{values_of}
use Rattle.gw_messages.specs.Fields.{Shows}
use Rattle.gw_messages.proofs.field.values_of.Given as goal

abbrev pub invariant-fields : goal.invariant-fields
invariant-fields l = Shows (values_of l.name (take l.field-index l.fields)) l.values
