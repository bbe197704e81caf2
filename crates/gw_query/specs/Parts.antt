-- A query gone through part by part.
use Rattle.std.specs.Prelude.{ℕ, ◌+◌, List, [], ◌==◌, length, Option, Some, None}
use Rattle.std.specs.List.{slice_split}

-- The parts of what follows such a byte, and none behind the last part.
abbrev pub parts_left : ℕ → Option (List ℕ) → List (List ℕ)
parts_left byte None = []
parts_left byte (Some rest) = slice_split (λ b. b == byte) rest

-- One more than the bytes that are left, and 0 where nothing is.
abbrev pub left_size : Option (List ℕ) → ℕ
left_size None = 0
left_size (Some rest) = length rest + 1
