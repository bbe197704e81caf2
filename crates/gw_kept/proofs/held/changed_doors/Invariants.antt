-- The doors so far are those of the former ones so far.
use Rattle.std.proofs.Common.{◌≡◌, map, option_to_list}
use Rattle.std.specs.Option.{option_copied}
use Rattle.gw_kept.specs.Held.{door_with}
use Rattle.gw_kept.proofs.held.changed_doors.Given as goal

abbrev pub invariant-doors : goal.invariant-doors
invariant-doors l = l.all.items ≡ map (door_with l.place (option_to_list (option_copied l.kept))) l.yielded
