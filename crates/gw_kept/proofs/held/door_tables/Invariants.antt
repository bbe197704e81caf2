-- The tables so far are those of the doors so far.
use Rattle.std.proofs.Common.{◌≡◌, map, take}
use Rattle.std.specs.Arc.{arc_value}
use Rattle.gw_match.specs.model.Listed.{rows_with}
use Rattle.gw_kept.specs.Held.{DoorTables}
use Rattle.gw_kept.proofs.held.door_tables.Given as goal

abbrev pub invariant-doors : goal.invariant-doors
invariant-doors l = map arc_value l.all.items ≡ map (λ (d : DoorTables). rows_with d.tables) (take l.door-index l.doors)
