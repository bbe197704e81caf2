-- The text is that of the statuses after the first changes that were seen.
use Rattle.gw_admin.specs.Answering.{place_of}
use Rattle.gw_admin.proofs.Answering.{answered_statuses}
use Rattle.gw_admin.proofs.answer.statuses.Goals as goal

pub returns-clause-answered : goal.returns-clause-answered
returns-clause-answered g c = λ body moments.
    let so = c.in_ok-text.ensures in
    answered_statuses (place_of g.N.HubName.doors g.N.HubName.controller) body c.in_ok-text.text c.in_ok-text.front _ _ _ moments so.text so.front so.begins c.in_ok-status_reply.ensures
