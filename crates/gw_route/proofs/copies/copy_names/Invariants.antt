-- The copies so far are those of the names so far.
use Rattle.std.proofs.Common.{◌≡◌, take}
use Rattle.gw_route.proofs.copies.copy_names.Given as goal

abbrev pub invariant-names : goal.invariant-names
invariant-names l = l.copy ≡ take l.name-index l.names
