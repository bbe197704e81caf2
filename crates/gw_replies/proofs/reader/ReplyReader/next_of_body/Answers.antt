-- A body that is read.
use Rattle.std.proofs.Common.{sym, refl}
use Rattle.gw_replies.proofs.Replies.{goes_same, step_after}
use Rattle.gw_replies.proofs.reader.ReplyReader.next_of_body.Goals as goal

pub returns-in_ok-progress-in-Body-clause-step : goal.returns-in_ok-progress-in-Body-clause-step
returns-in_ok-progress-in-Body-clause-step c =
    step_after c.args.self.now _ c.after_body.new.self c.after_body.result
    (goes_same c.args.self.now _ refl refl refl refl (sym c.in-Body.is) refl c.requires.open)
    (c.after_body.ensures c.in-Body.field-0 c.in-Body.reading c.read.new.self c.args.self.now.buffer refl c.in_ok-progress-in-Body.ensures.progress)
