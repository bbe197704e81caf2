-- The rows of the one kind or of the other get it.
use Rattle.gw_cells.proofs.cell.Cell.add.Goals as goal

pub returns-then-is_exact-clause-added : goal.returns-then-is_exact-clause-added
returns-then-is_exact-clause-added c = rw c.if-is_exact.true c.add_row.ensures.added

pub returns-else-is_exact-clause-added : goal.returns-else-is_exact-clause-added
returns-else-is_exact-clause-added c = rw c.if-is_exact.false c.add_row-else-is_exact.ensures.added

pub returns-then-is_exact-clause-put : goal.returns-then-is_exact-clause-put
returns-then-is_exact-clause-put c = rw c.if-is_exact.true c.add_row.ensures.put

pub returns-else-is_exact-clause-put : goal.returns-else-is_exact-clause-put
returns-else-is_exact-clause-put c = rw c.if-is_exact.false c.add_row-else-is_exact.ensures.put
