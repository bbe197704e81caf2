-- The hub's name stands for the opening.
use Rattle.gw_serve.proofs.serving.serve.Given as goal

abbrev pub ghosts-serve_opened : goal.ghosts-serve_opened
ghosts-serve_opened g a = record { book = a.controller.book; doors = a.controller.doors; controller = a.controller.controller }
