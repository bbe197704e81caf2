-- The rows of the table that is found are the listener's, among all.
use Rattle.std.proofs.Common.{◌≡◌, ◌∙◌, ap, rules, Some, None, List, option_copied}
use Rattle.gw_frames.specs.model.Requests.{Request}
use Rattle.gw_match.specs.Nearest.{table_at}
use Rattle.gw_match.specs.model.Choice.{row_at}
use Rattle.gw_match.specs.model.Listed.{Listed}
use Rattle.gw_match.proofs.Serving.{none_serves, table_serves}
use Rattle.gw_match.proofs.table.DoorTable.find.Goals as goal
use Rattle.gw_rows.specs.model.Rows.{Rows}

pub returns-in_err-table-clause-row : goal.returns-in_err-table-clause-row
returns-in_err-table-clause-row g c =
    let tables = c.self.inside.tables.items in
    let q = c.args.request.now in
    let found : None ≡ table_at tables q.host =
    c.in_err-table.ensures
    ∙ ap (λ (ts : List Listed). table_at ts c.bytes.result.now) c.as_slice.ensures.value
    ∙ ap (table_at tables) (c.bytes.ensures ∙ ap (λ (r : Request). r.host) c.request.view_is) in
    let nothing : option_copied c.from_residual.result ≡ None = search rules in
    nothing ∙ (none_serves tables q found ∙ ap (λ (r : Rows). row_at r q) c.self.view_is)

pub returns-clause-row : goal.returns-clause-row
returns-clause-row g c =
    let tables = c.self.inside.tables.items in
    let q = c.args.request.now in
    let found : Some c.in_ok-table.table.now ≡ table_at tables q.host =
    c.in_ok-table.ensures
    ∙ ap (λ (ts : List Listed). table_at ts c.bytes.result.now) c.as_slice.ensures.value
    ∙ ap (table_at tables) (c.bytes.ensures ∙ ap (λ (r : Request). r.host) c.request.view_is) in
    c.find.ensures.row
    ∙ table_serves tables q c.in_ok-table.table.now found c.self.invariant
    ∙ ap (λ (r : Rows). row_at r q) c.self.view_is
