-- The lines of a request are written one after the other.
use Rattle.gw_generate.proofs.Writing.{line_between}
use Rattle.gw_generate.proofs.line.push_request.Goals as goal

pub returns-clause-lines : goal.returns-clause-lines
returns-clause-lines c = line_between _ _ _ _ _ _ _ c.in_ok-push_open.ensures.lines c.in_ok-push_send.ensures.line c.in_ok-push_end.ensures.lines
