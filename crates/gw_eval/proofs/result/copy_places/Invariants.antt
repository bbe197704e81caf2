-- The copies so far are those of the places so far.
use Rattle.std.proofs.Common.{◌≡◌, take}
use Rattle.gw_eval.proofs.result.copy_places.Given as goal

abbrev pub invariant-places : goal.invariant-places
invariant-places l = l.copy ≡ take l.place-index l.places
