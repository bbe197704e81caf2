-- What is passed over has lower keys or higher ones.
use Rattle.std.proofs.Common.{◌≡◌, ◌-◌, ◌≤◌, length, map}
use Rattle.std.specs.List.{AllWithin}
use Rattle.std.specs.declared.cmp.Ordering.TheVariants.{Less, Greater}
use Rattle.gw_text.specs.model.Names.{key_order}
use Rattle.gw_kept.proofs.place.place_in.Given as goal

abbrev pub invariant-halves : goal.invariant-halves
invariant-halves g l = record {
  within : l.high ≤ length l.list;
  ordered : l.low ≤ l.high;
  lower : AllWithin (λ k. key_order k l.key ≡ Less) (map g.T.Kept.key_of l.list) 0 l.low;
  higher : AllWithin (λ k. key_order k l.key ≡ Greater) (map g.T.Kept.key_of l.list) l.high (length l.list);
}

abbrev pub decreases-halves : goal.decreases-halves
decreases-halves g l = l.high - l.low
