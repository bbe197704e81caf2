-- The Route is counted at the places so far, none of which is above the highest.
use Rattle.std.proofs.Common.{◌≡◌, ℕ, ◌<◌, ◌&&◌, false, not, nat_eq, length, take, get_or}
use Rattle.std.specs.List.{list_any}
use Rattle.gw_eval.specs.Counting.{attaches, more}
use Rattle.gw_eval.proofs.attached.count_row.Given as goal

abbrev pub invariant-places : goal.invariant-places
invariant-places l = record {
  size : length l.row ≡ length l.fn.row;
  counted : (other : ℕ) → other < length l.fn.row →
      get_or l.row other 0 ≡ more (list_any (nat_eq other) (take l.index l.places) && not (attaches l.earlier l.entry.gateway other)) (get_or l.fn.row other 0);
  below : (other : ℕ) → l.highest < other → list_any (nat_eq other) (take l.index l.places) ≡ false;
}
