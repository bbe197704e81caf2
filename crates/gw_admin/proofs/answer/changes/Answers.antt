-- The clock was asked once.
use Rattle.std.proofs.Common.{◌∙◌, List, ap}
use Rattle.gw_admin_texts.specs.model.Submissions.{Answer, changes_reply}
use Rattle.gw_admin.specs.Answering.{place_of}
use Rattle.gw_admin.proofs.Answering.{answered_changes, once}
use Rattle.gw_admin.proofs.answer.changes.Goals as goal

pub returns-in_err-receipt-clause-asked : goal.returns-in_err-receipt-clause-asked
returns-in_err-receipt-clause-asked g c = once _ _ c.now-at.result c.now-at.ensures

pub returns-in_err-changes_reply-clause-asked : goal.returns-in_err-changes_reply-clause-asked
returns-in_err-changes_reply-clause-asked g c = once _ _ c.now-at.result c.now-at.ensures

pub returns-clause-asked : goal.returns-clause-asked
returns-clause-asked g c = once _ _ c.now-at.result c.now-at.ensures

pub returns-clause-answered : goal.returns-clause-answered
returns-clause-answered g c =
    let so = c.in_ok-receipt.ensures in
    let r = c.in_ok-receipt.receipt in
    answered_changes (place_of g.N.HubName.doors g.N.HubName.controller) c.args.body.now c.now-at.result r c.args.pass.now.seen c.submit.new.pass.seen so.receipt so.first so.later
    _ _ _ c.now-at.ensures (c.in_ok-changes_reply.ensures ∙ ap (λ (answers : List Answer). changes_reply c.args.body.now answers r.first r.accepted r.front) c.as_slice.ensures.value)
