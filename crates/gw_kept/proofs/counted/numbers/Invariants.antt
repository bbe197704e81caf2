-- The numbers so far are those of the listeners so far.
use Rattle.std.proofs.Common.{◌≡◌, ◌<◌, ℕ, get_or, length}
use Rattle.gw_kept.specs.Counts.{number_at}
use Rattle.gw_kept.proofs.counted.numbers.Given as goal

abbrev pub invariant-places : goal.invariant-places
invariant-places l = record {
  length : length l.numbers.items ≡ l.place;
  numbers : (p : ℕ) → p < l.place → get_or l.numbers.items p 0 ≡ number_at l.counts l.gateway p;
}
