-- The fields so far, and those of the rest behind them, are those of all.
use Rattle.std.proofs.Common.{◌≡◌, ◌++◌, [], drop, take}
use Rattle.gw_filters.specs.model.Editing.{set_behind}
use Rattle.gw_filters.proofs.edits.set_in_place.Given as goal

abbrev pub invariant-fields : goal.invariant-fields
invariant-fields l = l.set ++ set_behind l.entries (take l.index l.fields) (drop l.index l.fields) ≡ set_behind l.entries [] l.fields
