-- The list is that of all rows of the door.
use Rattle.std.proofs.Common.{◌≡◌, ◌∙◌, ap, subst, IfOk, List, option_copied}
use Rattle.gw_decide.specs.Entries.{Entry}
use Rattle.gw_decide.proofs.RowByRow.{explained_at}
use Rattle.gw_decide.proofs.routes.explain.Goals as goal
use Rattle.gw_frames.specs.model.Requests.{Request}
use Rattle.gw_match.specs.model.Choice.{listener_at}
use Rattle.gw_rows.specs.model.Rows.{Rows}

pub returns : goal.returns
returns c =
    let rows = c.args.t.now in
    let taking : option_copied c.listener-listener.result ≡ listener_at rows.listeners c.args.request.now.host =
    c.listener-listener.ensures ∙ ap (λ (q : Request). listener_at rows.listeners q.host) c.request.view_is in
    let all = c.as_slice.ensures.value ∙ c.in_ok-rows.ensures in
    subst (λ (all : List Entry). IfOk c.explain_rows.result (λ e. e.items ≡ all)) (explained_at rows c.args.request.now _ _ _ taking c.row_at-best.ensures all) c.explain_rows.ensures
