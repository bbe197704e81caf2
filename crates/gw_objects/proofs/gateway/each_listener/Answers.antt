use Rattle.std.proofs.Common.{arith}
use Rattle.std.proofs.lemmas.Grind.{common_steps}
use Rattle.gw_objects.proofs.Listeners.{read_next}
use Rattle.gw_objects.proofs.gateway.each_listener.Goals as goal

pub nodes-preserved : goal.nodes-preserved
nodes-preserved c = grind (arith, common_steps, read_next)
