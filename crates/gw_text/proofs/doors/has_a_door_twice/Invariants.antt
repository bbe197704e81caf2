use Rattle.std.proofs.Common.{◌≡◌, drop}
use Rattle.gw_text.specs.model.Doors.{some_two, are_one_door}
use Rattle.gw_text.proofs.doors.has_a_door_twice.Given as goal

abbrev pub invariant-doors : goal.invariant-doors
invariant-doors l = some_two are_one_door (drop l.i l.doors) ≡ some_two are_one_door l.doors
