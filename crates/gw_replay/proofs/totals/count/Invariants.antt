-- None of the counts so far is the status's.
use Rattle.std.proofs.Common.{◌≡◌, ◌==◌, ℕ, ◌<◌, false, get_or}
use Rattle.gw_replay.proofs.totals.count.Given as goal

abbrev pub invariant-counts : goal.invariant-counts
invariant-counts l = record {
  same : l.counts.items ≡ l.fn.counts.items;
  others : (k : ℕ) → k < l.place → ((get_or l.counts.items k (0, 0)).0 == l.status) ≡ false;
}
