-- What is passed over has lower names or higher ones.
use Rattle.std.proofs.Common.{◌≡◌, ◌-◌, ◌≤◌, length}
use Rattle.std.specs.List.{AllWithin}
use Rattle.std.specs.declared.cmp.Ordering.TheVariants.{Less, Greater}
use Rattle.gw_stamp.specs.Names.{name_order}
use Rattle.gw_stamp.proofs.place.place_in.Given as goal

abbrev pub invariant-halves : goal.invariant-halves
invariant-halves l = record {
  within : l.high ≤ length l.list;
  ordered : l.low ≤ l.high;
  lower : AllWithin (λ x. name_order x.name l.name ≡ Less) l.list 0 l.low;
  higher : AllWithin (λ x. name_order x.name l.name ≡ Greater) l.list l.high (length l.list);
}

abbrev pub decreases-halves : goal.decreases-halves
decreases-halves l = l.high - l.low
