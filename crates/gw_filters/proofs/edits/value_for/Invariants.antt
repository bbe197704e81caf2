-- No entry so far has the name, so the first of the rest is the first of all.
use Rattle.std.proofs.Common.{◌≡◌, drop}
use Rattle.gw_filters.specs.model.Editing.{value_for}
use Rattle.gw_filters.proofs.edits.value_for.Given as goal

abbrev pub invariant-entries : goal.invariant-entries
invariant-entries l = value_for (drop l.entry-index l.entries) l.name ≡ value_for l.entries l.name
