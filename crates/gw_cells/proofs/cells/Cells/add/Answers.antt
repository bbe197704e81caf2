-- The cell of the row's address gets it, and all others stay.
use Rattle.std.proofs.Common.{◌∙◌, ap, List}
use Rattle.std.proofs.lemmas.Result.{on_ok_weaker}
use Rattle.gw_rows.specs.model.Rows.{Row}
use Rattle.gw_cells.proofs.Changing.{all_add, all_put}
use Rattle.gw_cells.proofs.cells.Cells.add.Goals as goal
use Rattle.gw_cells.specs.Cells.{at_name, in_cell, seen_address}
use Rattle.gw_cells.specs.model.Addresses.{Address, address_of}

pub returns-clause-added : goal.returns-clause-added
returns-clause-added c = λ rows apart are.
    let old : Address → List Row = λ a. at_name c.args.self.now.names a.name a.place in
    let new : Address → List Row = λ a. at_name c.put_at.new.names a.name a.place in
    on_ok_weaker c.put_at.result
    (λ now. all_add c.args.row.now old new (in_cell c.in_ok-cell.cell) (in_cell c.add.new.self) (seen_address c.in_ok-address.address)
    (c.in_ok-address.ensures ∙ ap address_of c.deref.ensures)
    (record { copied = c.in_ok-cell.ensures; others = c.in_ok-add.ensures.others; now = λ a. now a.name a.place })
    c.in_ok-add.ensures.added rows apart are)
    c.put_at.ensures

pub returns-clause-put : goal.returns-clause-put
returns-clause-put c = λ former rest stands are.
    let old : Address → List Row = λ a. at_name c.args.self.now.names a.name a.place in
    let new : Address → List Row = λ a. at_name c.put_at.new.names a.name a.place in
    on_ok_weaker c.put_at.result
    (λ now. all_put c.args.row.now old new (in_cell c.in_ok-cell.cell) (in_cell c.add.new.self) (seen_address c.in_ok-address.address)
    (c.in_ok-address.ensures ∙ ap address_of c.deref.ensures)
    (record { copied = c.in_ok-cell.ensures; others = c.in_ok-add.ensures.others; now = λ a. now a.name a.place })
    c.in_ok-add.ensures.put former rest stands are)
    c.put_at.ensures
