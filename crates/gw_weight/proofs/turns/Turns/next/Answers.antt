-- The turn is the pick, which is fair as that of any weights.
use Rattle.std.proofs.Common.{◌<◌, Some, ap, ◌∙◌, sym, subst, arith, replicate}
use Rattle.gw_text.specs.model.Picks.{Shares, after_pick, pick}
use Rattle.gw_weight.specs.Equal.{picked_before}
use Rattle.gw_weight.specs.Fair.{IsFairPick}
use Rattle.gw_weight.proofs.Claims.{fair-pick}
use Rattle.gw_weight.proofs.Equal.{before-IsKept, turn-picked}
use Rattle.gw_weight.proofs.turns.Turns.next.Goals as goal

pub returns-clause-pick : goal.returns-clause-pick
returns-clause-pick c =
    let s = c.self.inside in
    let less : s.turn < s.count = omega (arith, c.self.invariant, c.if-self-eq0.false) in
    sym (turn-picked s.count s.turn less) ∙ ap (λ (x : Shares). pick x.weights x.drawn) c.self.view_is

pub returns-clause-fair : goal.returns-clause-fair
returns-clause-fair c =
    let s = c.self.inside in
    let less : s.turn < s.count = omega (arith, c.self.invariant, c.if-self-eq0.false) in
    subst (λ (x : Shares). IsFairPick x.weights x.drawn (after_pick x.weights x.drawn (Some s.turn)) (Some s.turn)) c.self.view_is
    (fair-pick (replicate s.count 1) (picked_before s.count s.turn) s.turn (before-IsKept s.count s.turn c.self.invariant) (turn-picked s.count s.turn less))
