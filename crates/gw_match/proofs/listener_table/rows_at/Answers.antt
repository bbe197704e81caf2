-- Nothing stands at a place that no Route has.
use Rattle.gw_match.proofs.Celled.{none_there}
use Rattle.gw_match.proofs.listener_table.rows_at.Goals as goal

pub returns-in-None : goal.returns-in-None
returns-in-None c = none_there c.args.routes.now c.args.at c.in-None.ensures
