-- What is found among the cells of some rows is the foremost of these that fit.
use Rattle.std.proofs.Common.{◌∙◌}
use Rattle.gw_cells.specs.Cells.{at_name}
use Rattle.gw_cells.proofs.Probing.{found_is}
use Rattle.gw_cells.proofs.cells.Cells.find.Goals as goal

pub returns-clause-row : goal.returns-clause-row
returns-clause-row g c = λ rows are.
    c.find_by_name.ensures.row
    ∙ found_is c.args.request.now rows (at_name c.args.self.now.names) (λ name p. are (record { name = name; place = p }))
