-- Its cells are those of all its rows.
use Rattle.std.proofs.Common.{◌∙◌, ap, filter}
use Rattle.gw_match.specs.model.Listed.{Listed, rows_in}
use Rattle.gw_match.proofs.listener_table.ListenerTable.find.Goals as goal
use Rattle.gw_rows.specs.model.Fitting.{fits}
use Rattle.gw_rows.specs.model.Precedence.{precedence}
use Rattle.gw_rows.specs.model.Rows.{foremost}

pub returns-clause-row : goal.returns-clause-row
returns-clause-row g c =
    c.find.ensures.row (rows_in c.self.inside.routes) c.self.invariant.1
    ∙ ap (λ (t : Listed). foremost precedence (filter (λ r. fits r c.args.request.now) (rows_in t.routes))) c.self.view_is
