-- What stands at an address stands there in whichever order the rows are.
use Rattle.gw_cells.proofs.Held.{AreCellsOf-permutation}
use Rattle.gw_cells.proofs.laws.order_is_free.Goals as goal

pub returns : goal.returns
returns c = AreCellsOf-permutation
