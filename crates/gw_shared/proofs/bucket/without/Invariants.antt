-- What is kept, and what is kept of the rest, is what is kept of all.
use Rattle.std.proofs.Common.{◌≡◌, ◌++◌, drop}
use Rattle.gw_shared.specs.model.Buckets.{without}
use Rattle.gw_shared.proofs.bucket.without.Given as goal

abbrev pub invariant-slots : goal.invariant-slots
invariant-slots g l = l.kept.items ++ without l.hash l.key (drop l.slot-index l.slots) ≡ without l.hash l.key l.slots
