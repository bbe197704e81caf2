use Rattle.std.proofs.Common.{◌≡◌, ◌++◌, drop}
use Rattle.std.specs.List.{flat_map}
use Rattle.gw_replies.specs.model.Written.{ended_line, field_lines}
use Rattle.gw_replies.proofs.write.push_fields.Given as goal

abbrev pub invariant-fields : goal.invariant-fields
invariant-fields l =
    l.out.items ++ flat_map ended_line (field_lines (drop l.field-index l.fields)) ≡ l.fn.out.items ++ flat_map ended_line (field_lines l.fields)
