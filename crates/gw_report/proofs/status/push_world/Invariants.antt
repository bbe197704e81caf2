-- The steps are those of the ledger that is made for them.
use Rattle.gw_report.proofs.status.push_world.Given as goal

abbrev pub ghosts-statuses : goal.ghosts-statuses
ghosts-statuses a = record { name = a.blank.name; parts = a.blank.parts }
