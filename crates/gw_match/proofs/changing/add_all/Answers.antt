-- The next is added to those so far, or put in place of the first of the former ones that are left.
use Rattle.std.proofs.Common.{◌≡◌, ◌++◌, List, [], take, take_all, drop, subst, arith}
use Rattle.std.proofs.Math.ListN.{drop_of_length-le}
use Rattle.gw_cells.specs.Held.{AreCellsOf}
use Rattle.gw_rows.specs.model.Rows.{Row}
use Rattle.gw_match.proofs.Celled.{apart_from_those_so_far, next_in_place, one_more}
use Rattle.gw_match.proofs.changing.add_all.Goals as goal

pub rows-preserved : goal.rows-preserved
rows-preserved c =
    let rows = c.args.rows.now in
    let i = c.rows.row-index in
    let row = c.row-item.result in
    record {
      added = λ others apart are.
          one_more rows i row c.rows-test.true c.row-item.is others c.add.new.self
          (c.in_ok-add.ensures.added (take i rows ++ others) (apart_from_those_so_far rows i row c.rows-test.true c.row-item.is others apart)
          (c.rows.invariant.added others apart are));
      put = λ former others stand are.
          next_in_place rows i row c.rows-test.true c.row-item.is former others stand c.rows.cells c.add.new.self
          c.in_ok-add.ensures.put (c.rows.invariant.put former others stand are);
    }

pub returns-clause-added : goal.returns-clause-added
returns-clause-added c = λ others apart are.
    subst (λ (l : List Row). AreCellsOf (l ++ others) c.rows.cells) (take_all c.rows.row-index c.args.rows.now c.rows-test.false) (c.rows.invariant.added others apart are)

pub returns-clause-put : goal.returns-clause-put
returns-clause-put c = λ former others stand are.
    let i = c.rows.row-index in
    let size = stand.size in
    let past = c.rows-test.false in
    let none : drop i former ≡ [] = drop_of_length-le former (omega arith) in
    subst (λ (l : List Row). AreCellsOf (l ++ others) c.rows.cells) (take_all i c.args.rows.now past)
    (subst (λ (l : List Row). AreCellsOf (take i c.args.rows.now ++ (l ++ others)) c.rows.cells) none (c.rows.invariant.put former others stand are))
