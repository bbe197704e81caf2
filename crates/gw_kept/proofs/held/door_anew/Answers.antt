-- The doors of the Gateway are served anew, and the others stay.
use Rattle.std.proofs.Common.{◌≡◌, ◌∙◌, All, true, ap, sym, subst}
use Rattle.std.specs.Prelude.{if◌then◌else◌}
use Rattle.std.proofs.lemmas.Result.{IfOk-weaker}
use Rattle.gw_text.specs.model.Doors.{Door}
use Rattle.gw_text.specs.model.Names.{same_key}
use Rattle.gw_kept.proofs.Alike.{if_not}
use Rattle.gw_kept.proofs.Holding.{served_of_door, tables_of_door}
use Rattle.gw_kept.specs.Held.{DoorTables, IsOf, served_by, served_door}
use Rattle.gw_kept.proofs.held.door_anew.Goals as goal

pub returns-clause-served : goal.returns-clause-served
returns-clause-served c =
    let doors = c.args.doors.now in
    let controller = c.args.controller.now in
    let w = c.args.world.now.world in
    let door = c.args.held.now.door in
    let gateway : c.behind-held.inside.gateway ≡ door.gateway =
    ap (λ (d : Door). d.gateway) (c.behind-held.view_is ∙ c.deref.ensures ∙ ap (λ (d : DoorTables). d.door) c.held.view_is) in
    let same : same_key c.args.gateway.now door.gateway ≡ true =
    ap (same_key c.args.gateway.now) (sym gateway) ∙ if_not (same_key c.args.gateway.now c.behind-held.inside.gateway) (sym c.ne.ensures ∙ c.if-ne.false) in
    IfOk-weaker c.served_anew.result _ _
    (λ d is.
    ap served_by is ∙ served_of_door doors controller w c.args.kept.now door
    ∙ sym (ap (λ b. if b then served_door doors controller w door else served_by c.args.held.now) same))
    c.served_anew.ensures

pub returns-clause-tables : goal.returns-clause-tables
returns-clause-tables c =
    IfOk-weaker c.served_anew.result _ _
    (λ d is.
    subst (λ (d : DoorTables). All (IsOf d.door c.args.kept.now) d.tables) (sym is)
    (tables_of_door c.args.doors.now c.args.controller.now c.args.world.now.world c.args.kept.now c.args.held.now.door))
    c.served_anew.ensures
