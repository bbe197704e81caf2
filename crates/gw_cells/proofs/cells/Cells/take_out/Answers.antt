-- The cell of the row's address loses it, and all others stay.
use Rattle.std.proofs.Common.{List}
use Rattle.std.proofs.lemmas.Result.{on_ok_weaker}
use Rattle.gw_rows.specs.model.Rows.{Row}
use Rattle.gw_cells.proofs.Changing.{all_take_out}
use Rattle.gw_cells.proofs.cells.Cells.take_out.Goals as goal
use Rattle.gw_cells.specs.Cells.{at_name, in_cell, seen_address}
use Rattle.gw_cells.specs.model.Addresses.{Address}

pub returns : goal.returns
returns c = λ rest are.
    let old : Address → List Row = λ a. at_name c.args.self.now.names a.name a.place in
    let new : Address → List Row = λ a. at_name c.put_at.new.names a.name a.place in
    on_ok_weaker c.put_at.result
    (λ now. all_take_out c.args.row.now old new (in_cell c.in_ok-cell.cell) (in_cell c.take_out.new.self) (seen_address c.in_ok-address.address)
    c.in_ok-address.ensures
    (record { copied = c.in_ok-cell.ensures; others = c.take_out.ensures.others; now = λ a. now a.name a.place })
    c.in_ok-take_out.ensures.out rest are)
    c.put_at.ensures
