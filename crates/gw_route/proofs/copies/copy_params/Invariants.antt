-- The copies so far are those of the matches so far.
use Rattle.std.proofs.Common.{◌≡◌, take}
use Rattle.gw_route.proofs.copies.copy_params.Given as goal

abbrev pub invariant-params : goal.invariant-params
invariant-params l = l.copy.items ≡ take l.param-index l.params
