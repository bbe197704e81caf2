-- What is found is the row; where nothing is, it isn't there.
use Rattle.std.proofs.Common.{sym, subst}
use Rattle.gw_cells.proofs.Changing.{is_missing, takes_out_at}
use Rattle.gw_cells.proofs.rows.take_out_row.Goals as goal
use Rattle.gw_cells.specs.Cells.{rows_in}
use Rattle.gw_cells.specs.Changes.{TakesOutRow}

pub returns-in_ok-remove-in-Ok-clause-out : goal.returns-in_ok-remove-in-Ok-clause-out
returns-in_ok-remove-in-Ok-clause-out c =
    let cell = rows_in c.args.cell.now in
    let row = c.args.row.now in
    subst (TakesOutRow row cell) (sym c.in_ok-remove-in-Ok.ensures) (takes_out_at row cell c.in-Ok.at c.in-Ok.ensures.found (c.in-Ok.ensures.tied row))

pub returns-in-Err-clause-out : goal.returns-in-Err-clause-out
returns-in-Err-clause-out c = λ rest are.
    absurd (is_missing c.args.row.now (rows_in c.args.cell.now) c.in-Err.field-0 (λ others so. c.in-Err.ensures.between so.ordered) rest are)

pub returns-in-Err-clause-missing : goal.returns-in-Err-clause-missing
returns-in-Err-clause-missing c = λ none rest are.
    is_missing c.args.row.now (rows_in c.args.cell.now) c.in-Err.field-0 (λ others so. c.in-Err.ensures.between so.ordered) rest are
