-- Where the request goes.
use Rattle.std.proofs.Common.{◌∙◌, ℕ, List, sym, ap, subst, refl}
use Rattle.std.proofs.lemmas.Result.{IfOk-weaker}
use Rattle.gw_admin_texts.specs.declared.resource.Destination.TheVariants.{Found, NotAllowed, Missing}
use Rattle.gw_admin_texts.specs.declared.resource.Resource.TheVariants.{Explain, Health, Table}
use Rattle.gw_admin_texts.specs.model.Resources.{destination_of}
use Rattle.gw_frames.specs.model.Requests.{Request}
use Rattle.gw_text.specs.model.Doors.{Door}
use Rattle.gw_admin.specs.Answering.{IsAnswered, place_of}
use Rattle.gw_admin.proofs.Answering.{answered_alone, answered_as}
use Rattle.gw_admin.proofs.answer.answer.Goals as goal

pub returns-in-Found-Table-clause-answered : goal.returns-in-Found-Table-clause-answered
returns-in-Found-Table-clause-answered g c =
    IfOk-weaker c.table.result _ _ (λ reply a. answered_as _ (place_of g.N.HubName.doors g.N.HubName.controller) (Found Table) _ c.args.request.now.body reply _ _ _ _
    (ap (λ (f : List Door × List ℕ). place_of f.0 f.1) c.requires.fixed) (sym (c.in-Found-Table.is ∙ ap Found c.in-Found-Table.field-0-is) ∙ c.of.ensures)
    (a c.args.request.now.body (g.C.Clock.moments c.args.clock.now))) c.table.ensures.answered

pub returns-in-Found-Explain-clause-answered : goal.returns-in-Found-Explain-clause-answered
returns-in-Found-Explain-clause-answered g c =
    let body_is = c.bytes-in-Found-Explain.ensures ∙ ap (λ (q : Request). q.body) c.request.view_is in
    let to_is = sym (c.in-Found-Explain.is ∙ ap Found c.in-Found-Explain.field-0-is) ∙ c.of.ensures in
    let moments = g.C.Clock.moments c.args.clock.now in
    IfOk-weaker c.explanation.result _ _ (λ reply a.
    subst (λ (body : List ℕ). IsAnswered (place_of g.N.HubName.doors g.N.HubName.controller) (destination_of c.args.request.now) body reply c.args.pass.now.seen c.explanation.new.pass.seen moments moments) body_is
    (answered_as _ (place_of g.N.HubName.doors g.N.HubName.controller) (Found Explain) (destination_of c.args.request.now) _ reply _ _ _ _
    (ap (λ (f : List Door × List ℕ). place_of f.0 f.1) c.requires.fixed) to_is (a moments))) c.explanation.ensures.answered

pub returns-in_ok-health_reply-in-Found-Health-clause-answered : goal.returns-in_ok-health_reply-in-Found-Health-clause-answered
returns-in_ok-health_reply-in-Found-Health-clause-answered g c =
    answered_alone _ (Found Health) _ c.args.request.now.body _ _ (g.C.Clock.moments c.args.clock.now) (sym (c.in-Found-Health.is ∙ ap Found c.in-Found-Health.field-0-is) ∙ c.of.ensures)
    c.in_ok-health_reply-in-Found-Health.ensures tt refl

pub returns-in-NotAllowed-clause-answered : goal.returns-in-NotAllowed-clause-answered
returns-in-NotAllowed-clause-answered g c =
    answered_alone _ (NotAllowed c.in-NotAllowed.resource) _ c.args.request.now.body _ _ (g.C.Clock.moments c.args.clock.now) (sym c.in-NotAllowed.is ∙ c.of.ensures) c.not_allowed.ensures tt refl

pub returns-in-Missing-clause-answered : goal.returns-in-Missing-clause-answered
returns-in-Missing-clause-answered g c =
    answered_alone _ Missing _ c.args.request.now.body _ _ (g.C.Clock.moments c.args.clock.now) (sym c.in-Missing.is ∙ c.of.ensures) c.empty.ensures tt refl
