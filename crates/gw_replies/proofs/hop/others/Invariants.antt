use Rattle.std.proofs.Common.{◌≡◌, ◌++◌, map, filter, drop, not}
use Rattle.std.specs.List.{list_any}
use Rattle.gw_text.specs.model.Fields.{same_field_name}
use Rattle.gw_replies.proofs.hop.others.Given as goal

abbrev pub invariant-fields : goal.invariant-fields
invariant-fields l =
    l.kept.items ++ filter (λ f. not (list_any (same_field_name f.name) (map (λ n. n.now) l.names ++ l.options))) (drop l.field-index l.fields)
    ≡ filter (λ f. not (list_any (same_field_name f.name) (map (λ n. n.now) l.names ++ l.options))) l.fields
