-- The tables so far, and those of the rest, are all.
use Rattle.std.proofs.Common.{◌≡◌, ◌++◌, drop, map}
use Rattle.gw_match.specs.model.Listed.{in_one}
use Rattle.gw_match.proofs.making.tables_of.Given as goal

abbrev pub invariant-listeners : goal.invariant-listeners
invariant-listeners l = l.tables.items ++ map (in_one l.rows) (drop l.listener-index l.listeners) ≡ map (in_one l.rows) l.listeners
