-- The first comma.
use Rattle.gw_messages.proofs.Cutting.{first_is}
use Rattle.gw_messages.specs.Elements.{is_comma}
use Rattle.gw_messages.proofs.element.comma.Goals as goal

pub returns : goal.returns
returns c = first_is is_comma _ _ c.memchr.ensures
