-- The fields so far, and those of the rest, are those of all.
use Rattle.std.proofs.Common.{◌≡◌, ◌++◌, drop}
use Rattle.gw_filters.specs.model.Editing.{added_to}
use Rattle.gw_filters.proofs.edits.add_in_place.Given as goal

abbrev pub invariant-fields : goal.invariant-fields
invariant-fields l = l.added ++ added_to l.entries (drop l.index l.fields) ≡ added_to l.entries l.fields
