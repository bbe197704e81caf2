-- How an input is cut into lines.
use Rattle.std.specs.Prelude.{ℕ, List, [], Bool, ◌||◌, ◌==◌, Option, None, Some}
use Rattle.std.specs.List.{list_all, slice_split}

-- A line ends with a line feed, or with the input.
abbrev pub is_line_end : ℕ → Bool
is_line_end b = b == 10

-- The lines of an input. What follows the last line feed is a line too, a blank one where nothing follows.
abbrev pub lines_of : List ℕ → List (List ℕ)
lines_of input = slice_split is_line_end input

-- The lines of what is left of an input, if anything is.
abbrev pub lines_left : Option (List ℕ) → List (List ℕ)
lines_left None = []
lines_left (Some rest) = lines_of rest

-- Spaces, tabs and carriage returns alone, which are passed over.
abbrev pub is_blank : List ℕ → Bool
is_blank line = list_all (λ b. (b == 32) || (b == 9) || (b == 13)) line
