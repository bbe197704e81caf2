-- The fields kept so far, and those of the rest, are those of all.
use Rattle.std.proofs.Common.{◌≡◌, ◌++◌, drop}
use Rattle.gw_filters.specs.model.Editing.{with_removed}
use Rattle.gw_filters.proofs.edits.with_removed.Given as goal

abbrev pub invariant-fields : goal.invariant-fields
invariant-fields l = l.rest ++ with_removed l.names (drop l.field-index l.fields) ≡ with_removed l.names l.fields
