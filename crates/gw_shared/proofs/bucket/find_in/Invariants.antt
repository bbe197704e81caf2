-- What is found among the rest is what is found among all.
use Rattle.std.proofs.Common.{◌≡◌, drop}
use Rattle.gw_shared.specs.model.Entries.{found_in}
use Rattle.gw_shared.proofs.bucket.find_in.Given as goal

abbrev pub invariant-slots : goal.invariant-slots
invariant-slots g l = found_in l.hash l.key (drop l.slot-index l.slots) ≡ found_in l.hash l.key l.slots
