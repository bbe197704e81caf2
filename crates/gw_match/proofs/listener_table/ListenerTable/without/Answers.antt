-- The cells lose the former rows, and the list its place.
use Rattle.std.proofs.Common.{◌≡◌, ◌∙◌, List, [], ap, get_or, subst, rules}
use Rattle.gw_cells.specs.Held.{AreCellsOf}
use Rattle.gw_match.specs.model.Listed.{AreRowsOf, Listed, rows_in, without}
use Rattle.gw_match.proofs.Celled.{keeps_where_left}
use Rattle.gw_match.proofs.listener_table.ListenerTable.without.Goals as goal

pub invariant_of-result : goal.invariant_of-result
invariant_of-result c =
    let self = c.args.self in
    let are : AreCellsOf (rows_in self.routes) c.self.inside.cells = subst (λ (t : Listed). AreCellsOf (rows_in t.routes) c.self.inside.cells) c.self.view_is c.self.invariant.1 in
    let same : c.self.inside.listener ≡ self.listener = ap (λ (t : Listed). t.listener) c.self.view_is in
    let fit : AreRowsOf self.listener (rows_in self.routes) = subst (λ (t : Listed). AreRowsOf t.listener (rows_in t.routes)) c.self.view_is c.self.invariant.0 in
    let had = c.rows_at.ensures ∙ ap (λ (t : Listed). get_or t.routes c.args.at []) c.self.view_is in
    let now : c.remove.new.self ≡ without c.args.at self.routes = first_of (search rules, cc) in
    keeps_where_left self c.args.at c.self.inside.cells c.change_cells.new.cells are c.self.inside.listener same c.rows_at.result.now c.remove.new.self
    c.requires had now fit c.in_ok-change_cells.ensures
