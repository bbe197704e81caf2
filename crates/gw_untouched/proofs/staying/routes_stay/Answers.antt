use Rattle.gw_untouched.proofs.Laws.{routes_stay}
use Rattle.gw_untouched.proofs.staying.routes_stay.Goals as goal

pub returns : goal.returns
returns c = routes_stay
