-- What the types keep.
use Rattle.std.specs.Prelude.{◌≡◌, ℕ, ◌*◌, ◌^◌, ◌<◌, List, sum}
use Rattle.gw_text.specs.model.Picks.{IsKept}

-- The sums that are kept beside the lists, and room for the products of a claim.
pub record IsSharesOf (weights drawn : List ℕ) (total picks : ℕ) : Type 0 where
  pub kept : IsKept weights drawn
  pub total_is : total ≡ sum weights
  pub picks_is : picks ≡ sum drawn
  pub small : sum weights * 2 ^ 32 < 2 ^ 126
