-- The keys so far, and those of the edges to come, are those before and of all.
use Rattle.std.proofs.Common.{◌≡◌, ◌||◌, drop}
use Rattle.std.specs.List.{list_any}
use Rattle.gw_text.specs.model.Names.{Key, same_key}
use Rattle.gw_deps.specs.Edges.{has_key}
use Rattle.gw_deps.proofs.touching.add_all.Given as goal

abbrev pub invariant-edges : goal.invariant-edges
invariant-edges l = (k : Key) → (has_key k l.keys.list || list_any (λ e. same_key e.dependant k) (drop l.edge-index l.edges)) ≡ (list_any (λ e. same_key e.dependant k) l.edges || has_key k l.fn.keys.list)
