-- The numbers after a pick are kept as those before.
use Rattle.std.proofs.Common.{subst}
use Rattle.gw_text.specs.model.Picks.{Shares, IsKept}
use Rattle.gw_weight.proofs.Claims.{fair-pick}
use Rattle.gw_weight.proofs.shares.Shares.next.Goals as goal

pub returns-clause-fair : goal.returns-clause-fair
returns-clause-fair c =
    let now = c.args.self.now in
    let kept : IsKept now.weights now.drawn = subst (λ (s : Shares). IsKept s.weights s.drawn) c.self.view_is c.self.invariant.kept in
    fair-pick now.weights now.drawn c.leader-picked.result kept c.leader-picked.ensures
