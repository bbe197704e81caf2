-- How the foremost item is found: the best so far is kept.
use Rattle.std.specs.Prelude.{Bool, cond, Option, Some, None}
use Rattle.std.specs.Ordering.{is_lt}
use Rattle.std.specs.declared.cmp.Ordering.{Ordering}

-- The better of two, the first where neither stands before the other.
abbrev pub better_of : {T : Type 0} → (T → T → Ordering) → T → T → T
better_of order x y = cond (is_lt (order y x)) y x

-- What is kept of the best so far and an item: the item where it passes the test and nothing better was found.
abbrev pub kept : {T : Type 0} → (T → T → Ordering) → (T → Bool) → Option T → T → Option T
kept order test None x = cond (test x) (Some x) None
kept order test (Some best) x = cond (test x) (Some (better_of order best x)) (Some best)
