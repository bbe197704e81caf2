-- Each row is apart from those before it.
use Rattle.std.proofs.Common.{subst, take, take_all, List}
use Rattle.gw_rows.specs.model.Rows.{Row}
use Rattle.gw_cells.proofs.Held.{apart_so_far, one_more}
use Rattle.gw_cells.proofs.cells.Cells.of.Goals as goal
use Rattle.gw_cells.specs.Held.{AreCellsOf}

pub rows-preserved : goal.rows-preserved
rows-preserved c =
    let rows = c.args.rows.now in
    let i = c.rows.row-index in
    let row = c.row-item.result in
    one_more rows i row c.rows-test.true c.row-item.is c.add.new.self
    (c.in_ok-add.ensures.added (take i rows) (apart_so_far rows i row c.rows-test.true c.row-item.is c.requires) c.rows.invariant)

pub returns : goal.returns
returns c =
    subst (λ (l : List Row). AreCellsOf l c.rows.cells) (take_all c.rows.row-index c.args.rows.now c.rows-test.false) c.rows.invariant
