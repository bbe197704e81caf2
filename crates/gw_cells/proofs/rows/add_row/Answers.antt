-- None is one row with it, so it stands between those before it and those behind.
use Rattle.std.proofs.Common.{◌≡◌, ◌∙◌, sym, ap, subst, insert, set}
use Rattle.std.proofs.lemmas.Result.{on_ok_weaker}
use Rattle.gw_rows.specs.model.Rows.{Row}
use Rattle.gw_cells.proofs.Changing.{adds_between, adds_over, puts_over, puts_over_none}
use Rattle.gw_cells.proofs.rows.add_row.Goals as goal
use Rattle.gw_cells.specs.Cells.{rows_in}
use Rattle.gw_cells.specs.Changes.{AddsRow, PutsRow}

pub returns-in-Ok-clause-added : goal.returns-in-Ok-clause-added
returns-in-Ok-clause-added c =
    let cell = rows_in c.args.cell.now in
    let row = c.deref.result.now in
    let new = rows_in c.put.new.self in
    let own : row ≡ c.args.row.now = c.deref.ensures ∙ c.in_ok-row.ensures in
    on_ok_weaker c.put.result
    (λ now. subst (λ (r : Row). AddsRow r cell new) own (adds_over row cell new c.in-Ok.at c.in-Ok.ensures.found (c.in-Ok.ensures.one row)))
    c.put.ensures

pub returns-in-Err-clause-added : goal.returns-in-Err-clause-added
returns-in-Err-clause-added c =
    let cell = rows_in c.args.cell.now in
    let row = c.deref.result.now in
    let at = c.in-Err.at in
    let own : row ≡ c.args.row.now = c.deref.ensures ∙ c.in_ok-row.ensures in
    let between : AddsRow row cell (insert cell at row) = adds_between row cell at c.in-Err.ensures.within (λ rows are. c.in-Err.ensures.between are.ordered) in
    on_ok_weaker c.insert.result
    (λ now. subst (λ (r : Row). AddsRow r cell (rows_in c.insert.new.self)) own
    (subst (AddsRow row cell) (ap (insert cell at) c.deref.ensures ∙ sym now) between))
    c.insert.ensures

pub returns-in-Ok-clause-put : goal.returns-in-Ok-clause-put
returns-in-Ok-clause-put c =
    let cell = rows_in c.args.cell.now in
    let row = c.deref.result.now in
    let at = c.in-Ok.at in
    let own : row ≡ c.args.row.now = c.deref.ensures ∙ c.in_ok-row.ensures in
    let over : PutsRow row cell (set cell at row) = puts_over row cell at c.in-Ok.ensures.found (c.in-Ok.ensures.tied row) in
    on_ok_weaker c.put.result
    (λ now. subst (λ (r : Row). PutsRow r cell (rows_in c.put.new.self)) own
    (subst (PutsRow row cell) (ap (set cell at) c.deref.ensures ∙ sym now) over))
    c.put.ensures

pub returns-in-Err-clause-put : goal.returns-in-Err-clause-put
returns-in-Err-clause-put c =
    let cell = rows_in c.args.cell.now in
    let row = c.deref.result.now in
    let own : row ≡ c.args.row.now = c.deref.ensures ∙ c.in_ok-row.ensures in
    on_ok_weaker c.insert.result
    (λ now. subst (λ (r : Row). PutsRow r cell (rows_in c.insert.new.self)) own
    (puts_over_none row cell (rows_in c.insert.new.self) c.in-Err.at (λ rows are. c.in-Err.ensures.between are.ordered)))
    c.insert.ensures
