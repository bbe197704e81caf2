-- An event, taken or refused.
use Rattle.std.proofs.Common.{refl}
use Rattle.gw_match.specs.model.Telling.{world_after}
use Rattle.gw_report.proofs.Applying.{fails_is}
use Rattle.gw_store.specs.Events.{answer}
use Rattle.gw_replay.proofs.Stepping.{event_came, on_named, refused_event}
use Rattle.gw_replay.proofs.replay.Replay.event.Goals as goal

pub returns-in-Ok-clause-does : goal.returns-in-Ok-clause-does
returns-in-Ok-clause-does g c =
    event_came c.args.self.now (record c.args.self.now { controller = c.change.new.self }) c.count.new.self c.args.number c.args.now c.args.event.now c.in-Ok.outcome
    refl c.count.ensures c.in-Ok.ensures.comes c.change.ensures.published c.change.ensures.doors c.change.ensures.controller c.change.ensures.book

pub returns-in-Err-clause-does : goal.returns-in-Err-clause-does
returns-in-Err-clause-does g c =
    on_named c.refuse_event.result c.refuse_event.ensures.named c.refuse_event.ensures.does (λ named d.
    refused_event c.args.self.now (record c.args.self.now { controller = c.change.new.self }) c.refuse_event.new.self c.args.number c.args.now c.args.event.now c.in-Err.refusal
    refl c.in-Err.ensures.same c.change.ensures.published c.change.ensures.doors c.change.ensures.controller c.change.ensures.book
    (fails_is c.in-Err.refusal (answer (world_after c.args.self.now.controller.changes) c.args.event.now) named c.in-Err.ensures.refused) d)
