-- The reply is made and written, or not.
use Rattle.std.proofs.Common.{◌∷◌, [], refl, arith}
use Rattle.std.proofs.lemmas.Result.{on_ok_weaker, on_err_weaker, IfErr-weaker}
use Rattle.gw_frames.specs.model.Requests.{an_ask}
use Rattle.gw_lists.proofs.Beginnings.{begins_with-self}
use Rattle.gw_admin.specs.Answering.{place_of}
use Rattle.gw_admin.proofs.Causes.{cause_unanswered, cause_write, on_err, passed_on}
use Rattle.gw_admin.proofs.Turning.{broke_before, replied_broke, replied_turned}
use Rattle.gw_link.proofs.KeptLemmas.{keeps_self}
use Rattle.gw_admin.proofs.conn.Conn.reply.Goals as goal

pub returns-in_err-text-clause-broke : goal.returns-in_err-text-clause-broke
returns-in_err-text-clause-broke g c = on_err c.from_residual.result (λ bytes parts s.
    broke_before (place_of g.N.HubName.doors g.N.HubName.controller) c.args.self.now bytes bytes parts (an_ask c.args.request.now ∷ []) _ _ (begins_with-self bytes) (omega arith) s.inlet
    c.in_err-text.ensures.later c.in_err-text.ensures.asked (keeps_self _))

pub returns-in_err-text-clause-cause : goal.returns-in_err-text-clause-cause
returns-in_err-text-clause-cause g c =
    passed_on c.from_residual.result _ _ c.from_residual.ensures.1 (λ e is. rw is (cause_unanswered _ _ _ _ _ c.in_err-text.ensures.counts))

pub returns-clause-turned : goal.returns-clause-turned
returns-clause-turned g c =
    on_ok_weaker c.write.result (λ wrote bytes parts s.
    replied_turned (place_of g.N.HubName.doors g.N.HubName.controller) c.args.self.now c.args.request.now c.in_ok-text.text _ _ _ _ _ _ bytes parts s c.in_ok-text.ensures.replied _ refl refl
    (rw c.bytes.ensures at wrote)) c.write.ensures.ok

pub returns-clause-broke : goal.returns-clause-broke
returns-clause-broke g c =
    on_err_weaker c.write.result (λ wrote bytes parts s.
    replied_broke (place_of g.N.HubName.doors g.N.HubName.controller) c.args.self.now c.args.request.now c.in_ok-text.text _ _ _ _ _ _ bytes parts s c.in_ok-text.ensures.replied _ refl
    (rw c.bytes.ensures at wrote)) c.write.ensures.err

pub returns-clause-cause : goal.returns-clause-cause
returns-clause-cause g c = IfErr-weaker c.write.result _ _ (λ e of. cause_write e _ _ _ _ c.in_ok-text.ensures.counts of) c.write.ensures.cause
