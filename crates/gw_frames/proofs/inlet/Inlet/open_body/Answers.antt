-- A head that opens a request.
use Rattle.std.proofs.Common.{true, false, refl, ap, sym, subst, ◌∙◌}
use Rattle.gw_messages.specs.model.Bodies.{IsBody}
use Rattle.gw_frames.specs.model.Requests.{Opening}
use Rattle.gw_frames.proofs.Inlets.{goes_to_body}
use Rattle.gw_frames.proofs.inlet.Inlet.open_body.Goals as goal

pub returns-then-expects-clause-goes : goal.returns-then-expects-clause-goes
returns-then-expects-clause-goes c =
    goes_to_body c.args.self.now _ c.args.length c.args.opening c.new-reading.result true (sym (ap (λ (o : Opening). o.expects) c.opening.view_is) ∙ c.if-expects.true)
    c.requires.head c.requires.whole c.requires.judged
    (λ b y comes. subst (λ (o : Opening). IsBody 1048576 16777216 o.size b y) c.opening.view_is (c.new-reading.ensures b y comes)) refl refl refl (c.make_room.ensures ∙ c.advance.ensures)

pub returns-clause-goes : goal.returns-clause-goes
returns-clause-goes c =
    goes_to_body c.args.self.now _ c.args.length c.args.opening c.new-reading.result false (sym (ap (λ (o : Opening). o.expects) c.opening.view_is) ∙ c.if-expects.false)
    c.requires.head c.requires.whole c.requires.judged
    (λ b y comes. subst (λ (o : Opening). IsBody 1048576 16777216 o.size b y) c.opening.view_is (c.new-reading.ensures b y comes)) refl refl refl (c.make_room.ensures ∙ c.advance.ensures)
