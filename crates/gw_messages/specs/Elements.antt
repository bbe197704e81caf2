-- Lists with commas.
use Rattle.std.specs.Prelude.{ℕ, ◌+◌, List, [], Bool, ◌==◌, length, Option, Some, None}
use Rattle.std.specs.List.{slice_split}

abbrev pub is_comma : ℕ → Bool
is_comma b = b == 44

-- The parts of what follows a comma, and none behind the last part.
abbrev pub parts_left : Option (List ℕ) → List (List ℕ)
parts_left None = []
parts_left (Some rest) = slice_split is_comma rest

-- One more than the bytes that are left, and 0 where nothing is.
abbrev pub left_size : Option (List ℕ) → ℕ
left_size None = 0
left_size (Some rest) = length rest + 1
