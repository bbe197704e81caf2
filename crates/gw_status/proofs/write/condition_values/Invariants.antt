-- The values so far are those of the conditions so far.
use Rattle.std.proofs.Common.{◌≡◌, map, take}
use Rattle.serde_json.specs.View.{view}
use Rattle.gw_status.specs.StatusText.{condition_data}
use Rattle.gw_status.proofs.write.condition_values.Given as goal

abbrev pub invariant-conditions : goal.invariant-conditions
invariant-conditions l = map view l.values.items ≡ map condition_data (take l.condition-index l.conditions)
