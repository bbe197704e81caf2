-- A whole line.
use Rattle.gw_messages.proofs.ChunkLines.{line_within}
use Rattle.gw_messages.proofs.chunk.read_line.Goals as goal

pub returns-in-Ok-Complete-clause-within : goal.returns-in-Ok-Complete-clause-within
returns-in-Ok-Complete-clause-within c =
    let found = rw c.in-Ok-Complete.field-0-is at c.in-Ok-Complete.ensures.complete in
    line_within _ _ _ found.0 found.1
