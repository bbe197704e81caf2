-- The rows of the one kind or of the other lose it.
use Rattle.gw_cells.proofs.cell.Cell.take_out.Goals as goal

pub returns-then-is_exact-clause-out : goal.returns-then-is_exact-clause-out
returns-then-is_exact-clause-out c = rw c.if-is_exact.true c.take_out_row.ensures.out

pub returns-then-is_exact-clause-missing : goal.returns-then-is_exact-clause-missing
returns-then-is_exact-clause-missing c = rw c.if-is_exact.true c.take_out_row.ensures.missing

pub returns-else-is_exact-clause-out : goal.returns-else-is_exact-clause-out
returns-else-is_exact-clause-out c = rw c.if-is_exact.false c.take_out_row-else-is_exact.ensures.out

pub returns-else-is_exact-clause-missing : goal.returns-else-is_exact-clause-missing
returns-else-is_exact-clause-missing c = rw c.if-is_exact.false c.take_out_row-else-is_exact.ensures.missing
