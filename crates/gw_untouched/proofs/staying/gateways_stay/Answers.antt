use Rattle.gw_untouched.proofs.Laws.{gateways_stay}
use Rattle.gw_untouched.proofs.staying.gateways_stay.Goals as goal

pub returns : goal.returns
returns c = gateways_stay
