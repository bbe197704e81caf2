-- Lists that stand one behind another: the leaves of a branch, the branches of a list.
use Rattle.std.specs.Prelude.{List, Vec}
use Rattle.std.specs.List.{flat_map}
use Rattle.std.specs.declared.alloc.Global.{Global}

-- What stands in these parts, one behind another.
abbrev pub elements_of : {E : Type 0} → List (List E) → List E
elements_of parts = flat_map (λ part. part) parts

-- What stands in these pieces, one behind another.
abbrev pub in_pieces : {E : Type 0} → List (Vec E Global) → List E
in_pieces pieces = flat_map (λ piece. piece.items) pieces
