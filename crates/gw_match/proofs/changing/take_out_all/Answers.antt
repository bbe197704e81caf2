-- The first of those that are left is taken out.
use Rattle.std.proofs.Common.{◌≡◌, ◌+◌, ◌++◌, List, [], ◌∷◌, drop, subst, sym}
use Rattle.std.proofs.Math.ListN.{drop_of_length-le}
use Rattle.gw_cells.specs.Held.{AreCellsOf}
use Rattle.gw_rows.specs.model.Rows.{Row}
use Rattle.gw_match.proofs.Celled.{next_is}
use Rattle.gw_match.proofs.changing.take_out_all.Goals as goal

pub rows-preserved : goal.rows-preserved
rows-preserved c = λ others are.
    let rows = c.args.rows.now in
    let i = c.rows.row-index in
    let row = c.row-item.result in
    let left = drop (i + 1) rows ++ others in
    let here : AreCellsOf (row ∷ left) c.rows.cells =
    subst (λ (l : List Row). AreCellsOf (l ++ others) c.rows.cells) (next_is rows i row c.rows-test.true c.row-item.is) (c.rows.invariant others are) in
    c.in_ok-take_out.ensures left (subst (λ (r : Row). AreCellsOf (r ∷ left) c.rows.cells) (sym c.deref.ensures) here)

pub returns : goal.returns
returns c = λ others are.
    let none : drop c.rows.row-index c.args.rows.now ≡ [] = drop_of_length-le c.args.rows.now c.rows-test.false in
    subst (λ (l : List Row). AreCellsOf (l ++ others) c.rows.cells) none (c.rows.invariant others are)
