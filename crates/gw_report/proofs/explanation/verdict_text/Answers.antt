-- The text of the door that is there.
use Rattle.std.proofs.Common.{◌∙◌, ap, get_or, subst, sym}
use Rattle.std.proofs.lemmas.Result.{IfOk-weaker}
use Rattle.gw_decide.specs.ExplainText.{explain_text}
use Rattle.gw_rows.specs.model.DoorRows.{rows_of}
use Rattle.gw_match.specs.model.Listed.{AreRowsOfDoor}
use Rattle.gw_report.proofs.Doors.{at_door, some_door}
use Rattle.gw_report.proofs.explanation.verdict_text.Goals as goal

pub compile-requires : goal.compile-requires
compile-requires c =
    let doors = c.args.doors.now in
    let controller = c.args.controller.now in
    let w = c.args.world.now.world in
    subst AreRowsOfDoor (sym (c.in_ok-rows.ensures some_door))
    (c.rows_of_a_door_stand_listener_by_listener.ensures doors controller w (get_or doors c.args.door some_door) (rw c.routes-routes.ensures.value at c.routes-routes.ensures.order))

pub returns : goal.returns
returns c =
    let w = c.args.world.now.world in
    let q = c.args.request.now in
    IfOk-weaker c.write_explain.result _ _ (λ text is.
    at_door _ c.args.door (λ d. explain_text (rows_of _ _ w d) q w.changes) text c.requires
    (λ d. is ∙ ap (λ rows. explain_text rows q c.changes.result) (c.in_ok-table.ensures ∙ c.in_ok-rows.ensures d)
    ∙ ap (explain_text (rows_of _ _ w _) q) c.changes.ensures)) c.write_explain.ensures
