-- It gave nothing yet.
use Rattle.gw_requests.proofs.Requests.{gave_none}
use Rattle.gw_requests.proofs.request.inlet_of.Goals as goal

pub returns-clause-gave : goal.returns-clause-gave
returns-clause-gave c = gave_none _ _ _ c.new-inlet.ensures.stands c.in_ok-feed.ensures.fed
