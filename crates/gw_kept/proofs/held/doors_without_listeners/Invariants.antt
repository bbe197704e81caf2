-- The doors so far, and those of the rest, are all.
use Rattle.std.proofs.Common.{◌≡◌, ◌++◌, drop, map}
use Rattle.gw_kept.specs.Held.{door_alone}
use Rattle.gw_kept.proofs.held.doors_without_listeners.Given as goal

abbrev pub invariant-doors : goal.invariant-doors
invariant-doors l = l.all.items ++ map door_alone (drop l.door-index l.doors) ≡ map door_alone l.doors
