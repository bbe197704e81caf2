-- What a turn leaves open is open at the ring.
use Rattle.std.proofs.Common.{◌∙◌, ap, map, sym}
use Rattle.gw_polling.specs.Rings.{is_among}
use Rattle.gw_poll.specs.Crowds.{numbers_of}
use Rattle.gw_serve.proofs.Polling.{alike_turned, fewer_turned, served_turned}
use Rattle.gw_serve.proofs.polled.Turns.turn.Goals as goal

pub returns-in-Ok-clause-served : goal.returns-in-Ok-clause-served
returns-in-Ok-clause-served g c =
    let parts = rw c.tries.invariant at c.in-Ok.ensures.parted in
    rw c.close_all.ensures.crowd
    (served_turned g.V.PollUpstream (g.G.Ring.given_numbers c.args.self.now.ring) (g.G.Ring.given_numbers c.close_all.new.self.ring) c.args.self.now.crowd c.turn.new.self
    (map (λ parted. parted.number) c.in-Ok.gone.items) c.turn.ensures.can_turn (c.close_all.ensures.given ∙ ap (λ s. g.G.Ring.given_numbers s.ring) c.tries.invariant) parts c.requires)

pub returns-in-Ok-clause-alike : goal.returns-in-Ok-clause-alike
returns-in-Ok-clause-alike g c = λ alike number.
    let parts = rw c.tries.invariant at c.in-Ok.ensures.parted in
    alike_turned g.V.PollUpstream c.args.self.now.crowd c.turn.new.self (map (λ parted. parted.number) c.in-Ok.gone.items) (g.G.Ring.open_numbers c.args.self.now.ring)
    (g.G.Ring.open_numbers c.close_all.new.self.ring) c.requires.can_turn parts (rw c.tries.invariant at c.close_all.ensures.closed) alike number
    ∙ ap (λ crowd. is_among number (numbers_of crowd)) (sym c.close_all.ensures.crowd)

pub returns-in-Ok-clause-fewer : goal.returns-in-Ok-clause-fewer
returns-in-Ok-clause-fewer g c =
    let parts = rw c.tries.invariant at c.in-Ok.ensures.parted in
    rw c.close_all.ensures.crowd (fewer_turned c.args.self.now.crowd c.turn.new.self (map (λ parted. parted.number) c.in-Ok.gone.items) parts)
