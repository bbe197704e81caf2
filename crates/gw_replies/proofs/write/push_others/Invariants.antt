use Rattle.std.proofs.Common.{◌≡◌, ◌++◌, map, filter, drop, not}
use Rattle.std.specs.List.{flat_map, list_any}
use Rattle.gw_text.specs.model.Fields.{same_field_name}
use Rattle.gw_replies.specs.model.Written.{ended_line, field_lines}
use Rattle.gw_replies.proofs.write.push_others.Given as goal

abbrev pub invariant-fields : goal.invariant-fields
invariant-fields l =
    l.out.items ++ flat_map ended_line (field_lines (filter (λ f. not (list_any (same_field_name f.name) (map (λ n. n.now) l.names ++ l.options))) (drop l.field-index l.fields)))
    ≡ l.fn.out.items ++ flat_map ended_line (field_lines (filter (λ f. not (list_any (same_field_name f.name) (map (λ n. n.now) l.names ++ l.options))) l.fields))
