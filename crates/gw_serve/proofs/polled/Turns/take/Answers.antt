-- The connection is the crowd's too, or is closed.
use Rattle.std.proofs.Common.{◌∙◌, ap, sym}
use Rattle.gw_polling.specs.Rings.{is_among, without}
use Rattle.gw_poll.specs.Crowds.{numbers_in}
use Rattle.gw_serve.proofs.Polling.{alike_closed}
use Rattle.gw_serve.proofs.polled.Turns.take.Goals as goal

pub returns-then-eq-clause-alike : goal.returns-then-eq-clause-alike
returns-then-eq-clause-alike g c = λ others is alike.
    alike_closed c.args.self.now.crowd c.args.number others _ _ is c.close.ensures.closes c.requires.fresh alike

pub returns-in-Err-clause-alike : goal.returns-in-Err-clause-alike
returns-in-Err-clause-alike g c = λ others is alike m.
    alike_closed c.args.self.now.crowd c.args.number others _ _ is (c.close-in-Err.ensures.closes ∙ ap (λ r. without c.args.number (g.G.Ring.open_numbers r)) c.count.ensures.ring) c.requires.fresh alike m
    ∙ ap (λ l. is_among m (numbers_in l)) (ap (λ crowd. crowd.members.items) (sym c.count.ensures.crowd) ∙ sym c.in-Err.ensures.err)
