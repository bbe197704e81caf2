-- The rows of the next Route are added to those so far.
use Rattle.std.proofs.Common.{◌≡◌, ◌∙◌, ◌++◌, List, take, take_all, sym, subst}
use Rattle.gw_cells.specs.Held.{AreCellsOf}
use Rattle.gw_rows.specs.model.Rows.{Row}
use Rattle.gw_match.proofs.Celled.{apart_from_routes_so_far, one_route_more}
use Rattle.gw_match.specs.model.Listed.{AreApart, rows_in}
use Rattle.gw_match.proofs.changing.cells_of.Goals as goal

pub routes-preserved : goal.routes-preserved
routes-preserved c =
    let routes = c.args.routes.now in
    let i = c.routes.rows-index in
    let rows = c.rows-item.result in
    let so_far = rows_in (take i routes) in
    let is : c.as_slice.result.now ≡ rows = c.as_slice.ensures ∙ c.deref.ensures in
    let apart : AreApart (rows ++ so_far) = apart_from_routes_so_far routes i rows c.routes-test.true c.rows-item.is c.requires in
    one_route_more routes i rows c.routes-test.true c.rows-item.is c.add_all.new.cells
    (subst (λ (r : List Row). AreCellsOf (r ++ so_far) c.add_all.new.cells) is
    (c.in_ok-add_all.ensures.added so_far (subst (λ (r : List Row). AreApart (r ++ so_far)) (sym is) apart) c.routes.invariant))

pub returns : goal.returns
returns c =
    subst (λ (l : List (List Row)). AreCellsOf (rows_in l) c.routes.cells) (take_all c.routes.rows-index c.args.routes.now c.routes-test.false) c.routes.invariant
