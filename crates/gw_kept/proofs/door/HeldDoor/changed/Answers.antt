-- Each table takes the rows that the door's tables take.
use Rattle.std.proofs.Common.{All, option_to_list, subst, sym}
use Rattle.std.specs.Option.{option_copied}
use Rattle.gw_text.specs.model.Doors.{Door}
use Rattle.gw_kept.specs.Held.{DoorTables, Takes}
use Rattle.gw_kept.proofs.door.HeldDoor.changed.Goals as goal

pub changed_tables-requires-clause-tables : goal.changed_tables-requires-clause-tables
changed_tables-requires-clause-tables c =
    subst (λ (door : Door). All (Takes c.args.place door (option_to_list (option_copied c.args.kept))) c.self.inside.tables.items) (sym c.deref.ensures)
    (subst (λ (d : DoorTables). All (Takes c.args.place d.door (option_to_list (option_copied c.args.kept))) d.tables) (sym c.self.view_is) c.requires.tables)
