use Rattle.std.proofs.Common.{◌≡◌, ◌++◌, map, drop}
use Rattle.gw_messages.specs.Spans.{field_at}
use Rattle.gw_messages.proofs.spans.copy_fields.Given as goal

abbrev pub invariant-spans : goal.invariant-spans
invariant-spans l = l.fields.items ++ map (field_at l.bytes) (drop l.span-index l.spans) ≡ map (field_at l.bytes) l.spans
