-- The group of the Gateway API, by its constant.
use Rattle.gw_text.specs.model.Kinds.{gateway_group}
use Rattle.gw_route.proofs.parent.group.Goals as goal

pub returns : goal.returns
unfolding gateway_group
returns c = c.of.ensures
