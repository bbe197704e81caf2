use Rattle.std.proofs.Common.{sum, get_or}
use Rattle.gw_text.specs.model.Picks.{claim}
use Rattle.gw_weight.proofs.Claims.{Leads}
use Rattle.gw_weight.proofs.shares.Shares.leader.Given as goal

abbrev pub invariant-loop-i : goal.invariant-loop-i
invariant-loop-i l = Leads (claim l.self.weights (sum l.self.drawn) (λ k. get_or l.self.drawn k 0)) l.i l.leader
