use Rattle.std.proofs.Common.{◌≡◌, drop}
use Rattle.gw_text.specs.model.Doors.{some_two, have_two_addresses}
use Rattle.gw_text.proofs.doors.has_two_addresses.Given as goal

abbrev pub invariant-doors : goal.invariant-doors
invariant-doors l = some_two have_two_addresses (drop l.i l.doors) ≡ some_two have_two_addresses l.doors
