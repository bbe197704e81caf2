-- So many stand in the leaves before this one.
use Rattle.std.proofs.Common.{◌≡◌, length, take}
use Rattle.gw_shared.specs.Sharing.{elements_of}
use Rattle.gw_shared.proofs.branch.count_of.Given as goal

abbrev pub invariant-leaves : goal.invariant-leaves
invariant-leaves g l = l.count ≡ length (elements_of (take l.leaf-index l.leaves))
