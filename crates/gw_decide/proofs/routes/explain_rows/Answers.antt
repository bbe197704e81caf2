-- A row more is noted.
use Rattle.std.proofs.Common.{◌≡◌, ◌∙◌, ap, option_copied}
use Rattle.gw_decide.specs.model.Reasons.{reason_at}
use Rattle.gw_decide.proofs.RowByRow.{next_form, next_row, no_rows}
use Rattle.gw_decide.proofs.routes.explain_rows.Goals as goal
use Rattle.gw_rows.specs.model.Rows.{Row}

pub rows-init : goal.rows-init
rows-init c = record {
  reasons = c.new-reasons.ensures ∙ no_rows (reason_at (option_copied c.args.listener) (option_copied c.args.best) c.args.request.now);
  forms = tt;
}

pub rows-preserved : goal.rows-preserved
rows-preserved c =
    let rows = c.args.rows.now in
    let row = c.row-item.result in
    let why = reason_at (option_copied c.args.listener) (option_copied c.args.best) c.args.request.now in
    let own : c.behind-row.inside.key ≡ row.key = ap (λ (r : Row). r.key) (c.behind-row.view_is ∙ c.deref-in-rows.ensures) in
    record {
      reasons =
          next_row rows c.rows.row-index row c.rows-test.true c.row-item.is why c.behind-row.inside.key c.reason_at-why.result c.rows.reasons c.note.new.self own
          (c.reason_at-why.ensures ∙ ap why c.deref.ensures) c.rows.invariant.reasons c.rows.invariant.forms c.in_ok-note.ensures.noted;
      forms = next_form rows c.rows.row-index row c.rows-test.true c.row-item.is c.behind-row.inside.key own c.rows.invariant.forms c.in_ok-note.ensures.form;
    }
