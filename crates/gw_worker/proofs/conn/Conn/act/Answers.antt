-- A reply, or an exchange.
use Rattle.std.proofs.Common.{refl, sym, subst, ap, ◌∙◌}
use Rattle.gw_answers.specs.Seen.{seen_action}
use Rattle.gw_answers.specs.declared.decision.Action.{Action}
use Rattle.gw_worker.proofs.Serving.{came_asked, came_replied, ok_by}
use Rattle.gw_worker.specs.Steps.{Came}
use Rattle.gw_worker.specs.model.Sessions.{a_request}
use Rattle.gw_worker.proofs.conn.Conn.act.Goals as goal

pub returns-in-Reply-clause-came : goal.returns-in-Reply-clause-came
returns-in-Reply-clause-came c = ok_by c.reply_itself.result (λ turn is after p bytes parts q h text s r.
    subst (Came p c.reply_itself.new.self bytes parts text (a_request q h)) (sym is)
    (came_replied c.args.self.now c.reply_itself.new.self p bytes parts text q h c.args.front c.args.decision c.args.head c.args.last
    c.in-Reply.reply.code c.in-Reply.reply.location c.in-Reply.reply.fault s r c.decision.inside.chosen
    (sym c.decision.view_is ∙ ap (λ (a : Action). record { chosen = c.decision.inside.chosen; action = seen_action a }) c.in-Reply.is) c.requires.reading after))
    c.reply_itself.ensures.text c.reply_itself.ensures.rows

pub returns-in-Forward-clause-came : goal.returns-in-Forward-clause-came
returns-in-Forward-clause-came c = λ p bytes parts q h text s r.
    came_asked c.args.self.now _ p bytes parts text q h c.args.front c.args.decision c.args.head c.args.last c.in-Forward.forward.to c.in-Forward.forward.bytes
    (record { front = c.args.front; chosen = c.decision.inside.chosen; edits = c.in-Forward.forward.edits; head = c.args.head; last = c.args.last })
    s r (sym c.decision.view_is ∙ ap (λ (a : Action). record { chosen = c.decision.inside.chosen; action = seen_action a }) c.in-Forward.is) refl refl refl refl
