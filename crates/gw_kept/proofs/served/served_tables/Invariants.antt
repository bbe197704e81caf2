-- The tables so far are those of the listeners so far.
use Rattle.std.proofs.Common.{◌≡◌, map}
use Rattle.gw_kept.specs.Held.{listed_with}
use Rattle.gw_kept.proofs.served.served_tables.Given as goal

abbrev pub invariant-listeners : goal.invariant-listeners
invariant-listeners l = l.tables.items ≡ map (listed_with l.former.door l.kept) l.yielded
