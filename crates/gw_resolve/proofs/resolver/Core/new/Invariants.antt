-- The steps are those of the ledger that is made for them.
use Rattle.gw_resolve.proofs.resolver.Core.new.Given as goal

abbrev pub ghosts-evaluate_nothing : goal.ghosts-evaluate_nothing
ghosts-evaluate_nothing a = record { name = a.blank.name; parts = a.blank.parts }
