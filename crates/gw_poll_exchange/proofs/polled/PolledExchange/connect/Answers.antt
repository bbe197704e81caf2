-- The connection is opened, and the exchange goes on over it.
use Rattle.std.proofs.Common.{[], ◌∷◌}
use Rattle.gw_link.specs.Exchanges.{new_exchange}
use Rattle.gw_poll_exchange.proofs.Ending.{goes_opened, opened, over_opened, pending_map, ready_map, unopened}
use Rattle.gw_poll_exchange.proofs.Staying.{up_then}
use Rattle.gw_poll_exchange.proofs.polled.PolledExchange.connect.Goals as goal

pub go_on-requires-clause-begun : goal.go_on-requires-clause-begun
go_on-requires-clause-begun g c =
    let x = c.args.self.now in
    (new_exchange x.to ∷ [], opened x c.requires.begun.0 (unopened x c.requires.begun.0 c.requires.begun.1 c.requires.connecting))

pub returns-in-Ready-Ok-clause-on : goal.returns-in-Ready-Ok-clause-on
returns-in-Ready-Ok-clause-on g c = pending_map c.go_on.result (λ on met stands.
    let x = c.args.self.now in
    let u = unopened x met stands c.requires.connecting in
    goes_opened x c.go_on.new.self met _ _ _ u (rw c.in-Ready-Ok.field-0-is at c.in-Ready-Ok.ensures.opened) (on (new_exchange x.to ∷ []) (opened x met u)))
    c.go_on.ensures.on

pub returns-in-Ready-Ok-clause-over : goal.returns-in-Ready-Ok-clause-over
returns-in-Ready-Ok-clause-over g c = ready_map c.go_on.result (λ answer over met stands.
    let x = c.args.self.now in
    let u = unopened x met stands c.requires.connecting in
    over_opened x met _ _ _ answer u (rw c.in-Ready-Ok.field-0-is at c.in-Ready-Ok.ensures.opened) (over (new_exchange x.to ∷ []) (opened x met u)))
    c.go_on.ensures.over

pub returns-in-Ready-Ok-clause-up : goal.returns-in-Ready-Ok-clause-up
returns-in-Ready-Ok-clause-up g c =
    up_then g.U.PollUpstream g.met.U.PollUpstream.becomes_then _ _ _
    (record { becomes = c.poll_connect.ensures.goes; unmarked = c.poll_connect.ensures.unmarked; same = c.poll_connect.ensures.same; later = c.poll_connect.ensures.counts.later; waits = c.poll_connect.ensures.waits.later }) c.go_on.ensures.up
