use Rattle.gw_row_laws.proofs.Deciding.{some_backend}
use Rattle.gw_row_laws.proofs.backends.a_weight_is_drawn.Goals as goal

pub returns : goal.returns
returns c = some_backend
