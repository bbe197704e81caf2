use Rattle.gw_row_laws.proofs.Deciding.{some_endpoint}
use Rattle.gw_row_laws.proofs.backends.a_socket_is_drawn.Goals as goal

pub returns : goal.returns
returns c = some_endpoint
