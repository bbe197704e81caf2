-- A number more.
use Rattle.std.proofs.Common.{ℕ, rules}
use Rattle.gw_kept.specs.Counts.{number_at}
use Rattle.gw_kept.proofs.Numbers.{numbers_more}
use Rattle.gw_kept.proofs.counted.numbers.Goals as goal

pub places-preserved : goal.places-preserved
places-preserved c = record {
  length = search rules;
  numbers = rw c.in_ok-push.ensures.items (numbers_more (λ (p : ℕ). number_at c.args.counts.now c.args.gateway.now p) c.places.numbers.items c.places.place _ c.places.invariant.length (search rules) c.places.invariant.numbers);
}
