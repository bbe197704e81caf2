-- Sets that are kept as lists in an order.
use Rattle.std.specs.Prelude.{ℕ, Bool, List}
use Rattle.std.specs.List.{list_any}

-- Something among the items is the same as x.
abbrev pub has : {X : Type 0} → (X → X → Bool) → X → List X → Bool
has same x items = list_any (λ y. same y x) items

-- The items, and for how many more there is room.
pub record Kept (X : Type 0) : Type 0 where
  pub list : List X
  pub spare : ℕ
