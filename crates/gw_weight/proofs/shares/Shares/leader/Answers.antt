-- One more index, and at the end all of them.
use Rattle.std.proofs.Common.{◌≡◌, ◌<◌, ◌+◌, ℕ, sum, get_or, length, subst, sym, arith, ap}
use Rattle.std.specs.Prelude.{ℤ, ◌<ℤ◌, ◌≤ℤ◌}
use Rattle.std.proofs.lemmas.Int.{ints}
use Rattle.gw_text.specs.model.Picks.{Shares, claim}
use Rattle.gw_weight.proofs.Claims.{Leads, Leads-takes, Leads-keeps, Leads-pick, sum-some}
use Rattle.gw_weight.proofs.shares.Shares.leader.Goals as goal
use Rattle.gw_weight.proofs.shares.Shares.leader.Goals.{then-claim, else-claim}

abbrev claims : Shares → ℕ → ℤ
claims s = claim s.weights (sum s.drawn) (λ k. get_or s.drawn k 0)

pub loop-i-preserved : goal.loop-i-preserved
loop-i-preserved c =
    let f = claims c.args.self.now in
    elim c.if-claim.branch [
      | then-claim w ↦ (
          let above : f c.loop-i.leader <ℤ f c.loop-i.i = omega (arith, ints, w.if-claim.true, c.claim.ensures, c.claim-in-loop-i.ensures) in
          subst (λ (b : ℕ). Leads f (c.loop-i.i + 1) b) (sym w.leader-is) (Leads-takes f c.loop-i.i c.loop-i.leader c.loop-i.invariant above))
      | else-claim w ↦ (
          let below : f c.loop-i.i ≤ℤ f c.loop-i.leader = omega (arith, ints, w.if-claim.false, c.claim.ensures, c.claim-in-loop-i.ensures) in
          subst (λ (b : ℕ). Leads f (c.loop-i.i + 1) b) (sym w.leader-is) (Leads-keeps f c.loop-i.i c.loop-i.leader c.loop-i.invariant below))
    ]

pub returns : goal.returns
returns c =
    let some : 0 < length c.args.self.now.weights = sum-some c.args.self.now.weights c.requires in
    let whole : length c.args.self.now.weights ≡ length c.self.inside.weights.items = ap (λ (s : Shares). length s.weights) (sym c.self.view_is) in
    let all : c.loop-i.i ≡ length c.args.self.now.weights = omega arith in
    Leads-pick c.args.self.now.weights (sum c.args.self.now.drawn) (λ k. get_or c.args.self.now.drawn k 0) c.loop-i.leader c.requires
    (subst (λ (m : ℕ). Leads (claims c.args.self.now) m c.loop-i.leader) all c.loop-i.invariant)
