use Rattle.std.proofs.Common.{◌≡◌, map, take}
use Rattle.gw_answers.proofs.books.weights_of.Given as goal

abbrev pub invariant-backends : goal.invariant-backends
invariant-backends l = l.weights.items ≡ map (λ b. b.weight) (take l.backend-index l.backends)
