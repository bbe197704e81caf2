-- The steps are those of the ledger that is made for them.
use Rattle.gw_hub.proofs.controller.Controller.change.Given as goal

abbrev pub ghosts-prepare : goal.ghosts-prepare
ghosts-prepare g a = record { name = a.blank.name; parts = a.blank.parts }
