use Rattle.std.proofs.Common.{◌≡◌, ◌*◌, ◌≤◌, rules, sum, length, sym, subst}
use Rattle.gw_text.specs.model.Picks.{zeros}
use Rattle.gw_weight.proofs.Claims.{zeros-IsKept, sum-small, sum-zeros}
use Rattle.gw_weight.proofs.shares.Shares.new.Goals as goal

pub invariant_of-result : goal.invariant_of-result
invariant_of-result c =
    let same : c.in_ok-weights.weights.items ≡ c.args.weights.now = search rules in
    let none : c.in_ok-drawn.drawn.items ≡ zeros c.args.weights.now = search rules in
    rw (same, none) (record {
      kept = zeros-IsKept c.args.weights.now;
      total_is = c.sum_of-total.ensures.value;
      picks_is = sym (sum-zeros c.args.weights.now);
      small = sum-small (length c.args.weights.now) (sum c.args.weights.now)
          (subst (λ t. t ≤ length c.args.weights.now * 4294967295) c.sum_of-total.ensures.value c.sum_of-total.ensures.small) c.requires;
    })
