-- The values so far are those of the backends so far.
use Rattle.std.proofs.Common.{◌≡◌, map, take}
use Rattle.serde_json.specs.View.{view}
use Rattle.gw_decide.specs.ExplainText.{backend_data}
use Rattle.gw_decide.proofs.write.backend_values.Given as goal

abbrev pub invariant-backends : goal.invariant-backends
invariant-backends l = map view l.values.items ≡ map backend_data (take l.backend-index l.backends)
