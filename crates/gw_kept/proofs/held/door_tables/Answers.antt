-- The tables of the door at hand are such as a door's table is made of.
use Rattle.std.proofs.Common.{◌≡◌, get_or, rules, sym, subst}
use Rattle.gw_match.specs.model.Listed.{AreOfOneDoor}
use Rattle.gw_kept.specs.Held.{DoorTables}
use Rattle.gw_kept.proofs.held.door_tables.Goals as goal

pub of-requires : goal.of-requires
of-requires c =
    let i = c.doors.door-index in
    let item = c.door-item.result in
    let here : item ≡ get_or c.args.doors.now i item = search rules in
    let one : AreOfOneDoor item.tables = subst (λ (d : DoorTables). AreOfOneDoor d.tables) (sym here) (c.requires i item (search rules)) in
    let tables : c.in_ok-tables.tables.items ≡ item.tables = search rules in
    rw tables one
