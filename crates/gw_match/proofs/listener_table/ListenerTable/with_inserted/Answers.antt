-- The cells get the rows, and the list has them at their place.
use Rattle.std.proofs.Common.{◌≡◌, ap, subst, rules}
use Rattle.gw_cells.specs.Held.{AreCellsOf}
use Rattle.gw_match.specs.model.Listed.{Listed, rows_in, with_inserted}
use Rattle.gw_match.proofs.Celled.{keeps_where_inserted}
use Rattle.gw_match.proofs.listener_table.ListenerTable.with_inserted.Goals as goal

pub invariant_of-result : goal.invariant_of-result
invariant_of-result c =
    let self = c.args.self in
    let are : AreCellsOf (rows_in self.routes) c.self.inside.cells = subst (λ (t : Listed). AreCellsOf (rows_in t.routes) c.self.inside.cells) c.self.view_is c.self.invariant.1 in
    let same : c.self.inside.listener ≡ self.listener = ap (λ (t : Listed). t.listener) c.self.view_is in
    let now : c.insert.new.self ≡ with_inserted c.args.at c.args.rows self.routes = first_of (search rules, cc) in
    keeps_where_inserted self c.args.at c.self.inside.cells c.change_cells.new.cells are c.self.inside.listener same c.args.rows c.as_slice.result.now c.insert.new.self
    c.as_slice.ensures now c.requires.rows c.in_ok-change_cells.ensures
