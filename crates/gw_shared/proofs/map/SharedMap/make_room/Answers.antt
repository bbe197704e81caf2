-- More buckets have the same.
use Rattle.std.proofs.Common.{◌≡◌, ◌∙◌, rules, ap, subst, ℕ, ◌*◌, ◌⊎◌, length}
use Rattle.gw_shared.specs.model.Buckets.{value_at}
use Rattle.gw_shared.proofs.Placing.{spread_value}
use Rattle.gw_shared.proofs.map.SharedMap.make_room.Goals as goal

pub returns-clause-values : goal.returns-clause-values
returns-clause-values g c = λ key.
    let before = c.self.inside.buckets in
    let count : c.len-2.result ≡ length before = search rules in
    ap (λ l. value_at l key) c.in_ok-self-inside.ensures
    ∙ spread_value c.in-Some.number before key c.in-Some.ensures.0 (subst (λ (n : ℕ). (n ≡ 0) ⊎ (c.in-Some.number ≡ n * 4)) count c.in-Some.ensures.1)
    ∙ ap (λ l. value_at l key) c.self.view_is
