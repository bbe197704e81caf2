-- The tables have the rows of the doors.
use Rattle.std.proofs.Common.{◌∙◌, All, ap, map, sym, subst}
use Rattle.std.specs.Arc.{arc_value}
use Rattle.std.proofs.lemmas.Result.{IfOk-weaker}
use Rattle.gw_match.specs.model.Listed.{AreOfOneDoor, rows_with}
use Rattle.gw_match.specs.model.Telling.{tables_of}
use Rattle.gw_kept.proofs.Holding.{of_one_door, rows_of_all}
use Rattle.gw_kept.proofs.Worlds.{all_of, doors_of}
use Rattle.gw_kept.specs.Held.{DoorTables, Held}
use Rattle.gw_kept.proofs.held.KeptRoutes.tables.Goals as goal

pub door_tables-requires : goal.door_tables-requires
door_tables-requires c =
    let controller = arc_value c.self.inside.controller in
    let w = c.args.world.now.world in
    let doors = c.args._doors.now in
    let ds = c.self.inside.doors.items in
    subst (All (λ (d : DoorTables). AreOfOneDoor d.tables)) (sym c.as_slice.ensures.value)
    (of_one_door doors controller w (rw c.routes-routes.ensures.value at c.routes-routes.ensures.order) ds doors
    (doors_of doors controller w c.args.self.now c.self.inside.kept ds c.self.view_is c.requires.served)
    (all_of doors controller w c.args.self.now c.self.inside.kept ds c.self.view_is c.requires.kept c.self.invariant.tables_are))

pub returns : goal.returns
returns c =
    let controller = arc_value c.self.inside.controller in
    let w = c.args.world.now.world in
    let doors = c.args._doors.now in
    let ds = c.self.inside.doors.items in
    IfOk-weaker c.door_tables.result _ _
    (λ all is.
    is ∙ ap (map (λ (d : DoorTables). rows_with d.tables)) c.as_slice.ensures.value
    ∙ rows_of_all doors controller w ds doors
    (doors_of doors controller w c.args.self.now c.self.inside.kept ds c.self.view_is c.requires.served)
    (all_of doors controller w c.args.self.now c.self.inside.kept ds c.self.view_is c.requires.kept c.self.invariant.tables_are)
    ∙ ap (λ (h : Held). tables_of doors h.controller w) c.self.view_is)
    c.door_tables.ensures
