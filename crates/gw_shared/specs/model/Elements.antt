-- What becomes of a list's elements.
use Rattle.std.specs.Prelude.{ℕ, ◌+◌, List, ◌++◌, take, drop}

-- The elements with these in place of so many from a place on.
abbrev pub replaced : {E : Type 0} → ℕ → ℕ → List E → List E → List E
replaced at count new items = take at items ++ new ++ drop (at + count) items
