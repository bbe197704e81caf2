-- Parameters in the order of their names, for a search by halves.
use Rattle.std.specs.Prelude.{◌≡◌, ℕ, List, Bool, bytes_eq, cond, Option, None, Some}
use Rattle.std.specs.Cmp.Lexicographic.{slice_cmp}
use Rattle.std.specs.List.Sorted.{IsSortedBy}
use Rattle.std.specs.Ordering.{is_lt, nat_cmp}
use Rattle.gw_query.specs.model.Parameters.{Parameter, first_value}

-- The name comes before that of the other.
abbrev pub is_before : Parameter → Parameter → Bool
is_before p other = is_lt (slice_cmp nat_cmp p.name other.name)

-- The parameters in the order of their names; of each name the same one is first.
pub record AreSorted (sorted parameters : List Parameter) : Type 0 where
  pub ascend : IsSortedBy is_before sorted
  pub same : (name : List ℕ) → first_value name sorted ≡ first_value name parameters

-- A parameter that may be there, where it has the name.
abbrev pub if_named : List ℕ → Option Parameter → Option Parameter
if_named name None = None
if_named name (Some p) = cond (bytes_eq p.name name) (Some p) None
