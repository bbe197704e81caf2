-- It is the listener of the table that is found.
use Rattle.std.proofs.Common.{◌≡◌, ◌∙◌, ap, rules, Some, None, List, option_copied, option_map}
use Rattle.gw_match.specs.Nearest.{table_at}
use Rattle.gw_match.specs.model.Choice.{listener_at}
use Rattle.gw_match.specs.model.Listed.{Listed}
use Rattle.gw_match.proofs.Serving.{taken}
use Rattle.gw_match.proofs.table.DoorTable.listener.Goals as goal
use Rattle.gw_rows.specs.model.Rows.{Rows}

pub returns-in_err-table : goal.returns-in_err-table
returns-in_err-table c =
    let tables = c.self.inside.tables.items in
    let found : None ≡ table_at tables c.args.host.now =
    c.in_err-table.ensures ∙ ap (λ (ts : List Listed). table_at ts c.bytes.result.now) c.as_slice.ensures.value ∙ ap (table_at tables) c.bytes.ensures in
    let nothing : option_copied c.from_residual.result ≡ None = search rules in
    nothing
    ∙ (ap (option_map (λ (t : Listed). t.listener)) found
    ∙ (taken tables c.args.host.now ∙ ap (λ (r : Rows). listener_at r.listeners c.args.host.now) c.self.view_is))

pub returns : goal.returns
returns c =
    let tables = c.self.inside.tables.items in
    let found : Some c.in_ok-table.table.now ≡ table_at tables c.args.host.now =
    c.in_ok-table.ensures ∙ ap (λ (ts : List Listed). table_at ts c.bytes.result.now) c.as_slice.ensures.value ∙ ap (table_at tables) c.bytes.ensures in
    ap Some c.listener.ensures
    ∙ ap (option_map (λ (t : Listed). t.listener)) found
    ∙ taken tables c.args.host.now
    ∙ ap (λ (r : Rows). listener_at r.listeners c.args.host.now) c.self.view_is
