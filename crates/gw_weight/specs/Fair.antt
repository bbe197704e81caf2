-- What one pick carries of fairness.
use Rattle.std.specs.Prelude.{◌≡◌, ℕ, ◌<◌, ◌↔◌, List, Option, IsNone, IfSome, length, sum}
use Rattle.gw_text.specs.model.Picks.{counted, IsKept}

-- A pick by weights, with the numbers before it and after it: there is one unless the weights' sum is 0, it is one of the
-- weights, the numbers stay within a pick of their shares, and where it ends a round each has had its weight.
pub record IsFairPick (weights before after : List ℕ) (picked : Option ℕ) : Type 0 where
  pub none : IsNone picked ↔ (sum weights ≡ 0)
  pub within : IfSome picked (λ i. i < length weights)
  pub kept : IsKept weights after
  pub round : IfSome picked (λ i. sum (counted before i) ≡ sum weights → counted before i ≡ weights)
