-- No row stands anywhere.
use Rattle.std.proofs.Common.{[]}
use Rattle.std.proofs.lemmas.List.Sorted.{IsPermutation-refl}
use Rattle.std.specs.List.Sorted.{IsStrictlySortedBy}
use Rattle.gw_cells.proofs.cells.Cells.new.Goals as goal

pub returns : goal.returns
unfolding IsStrictlySortedBy
returns c = λ a. rw (c.new.ensures a.name) (record { all = IsPermutation-refl []; ordered = tt })
