-- The doors so far have their listeners, and the rows of all Routes.
use Rattle.std.proofs.Common.{◌≡◌, All, map, take}
use Rattle.gw_kept.specs.Held.{DoorTables, IsOf, served_anew, served_by}
use Rattle.gw_kept.proofs.held.doors_anew.Given as goal

abbrev pub invariant-doors : goal.invariant-doors
invariant-doors l = record {
  served : map served_by l.all.items ≡ map (served_anew l.doors l.controller l.world.world l.gateway) (map served_by (take l.door-index l.held));
  tables : All (λ (d : DoorTables). All (IsOf d.door l.kept) d.tables) l.all.items;
}
