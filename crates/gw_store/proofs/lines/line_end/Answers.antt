-- The first line feed.
use Rattle.gw_store.proofs.Cutting.{first_is}
use Rattle.gw_store.specs.Lines.{is_line_end}
use Rattle.gw_store.proofs.lines.line_end.Goals as goal

pub returns : goal.returns
returns c = first_is is_line_end _ _ c.memchr.ensures
