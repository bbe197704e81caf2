-- The order in which names are looked for.
use Rattle.std.specs.Borrow.{Bor}
use Rattle.std.specs.Prelude.{ℕ, List}
use Rattle.std.specs.Cmp.Lexicographic.{slice_cmp}
use Rattle.std.specs.List.Sorted.{IsSortedByKey}
use Rattle.std.specs.Ordering.{nat_cmp}
use Rattle.gw_messages.specs.model.Values.{lower}

-- The names stand in the order of their texts in lower case.
abbrev pub IsInOrder : List (Bor (List ℕ)) → Type 0
IsInOrder names = IsSortedByKey (λ n. lower n.now) (slice_cmp nat_cmp) names
