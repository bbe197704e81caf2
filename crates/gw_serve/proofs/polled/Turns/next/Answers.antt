-- A number that the ring gives is new to the crowd.
use Rattle.std.proofs.Common.{◌≡◌, ◌∙◌, ◌++◌, [], Ok, ap, append-nil, sym}
use Rattle.gw_serve.proofs.Polling.{among_none, none_alike}
use Rattle.gw_serve.proofs.polled.Turns.next.Goals as goal

pub take-requires-clause-fresh : goal.take-requires-clause-fresh
take-requires-clause-fresh g c = among_none c.in-Ok-New.number (g.G.Ring.given_numbers c.args.self.now.ring) _ c.requires.given_are (rw c.in-Ok-New.field-0-is at c.in-Ok-New.ensures.once)

pub returns-in-Ok-Done-clause-ends : goal.returns-in-Ok-Done-clause-ends
returns-in-Ok-Done-clause-ends g c = λ is alike.
    let done = c.wait.ensures.done (c.in-Ok-Done.is ∙ ap Ok c.in-Ok-Done.field-0-is) in
    let before = g.G.Ring.open_numbers c.args.self.now.ring in
    let same : g.G.Ring.open_numbers c.wait.new.self ≡ before ++ [] = rw c.in-Ok-Done.field-0-is at c.in-Ok-Done.ensures.opens in
    none_alike c.args.self.now.crowd before (sym (append-nil before) ∙ sym same ∙ done.0) alike
