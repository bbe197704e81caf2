-- The keys so far, and those of the parentRefs to come, are those before and of all.
use Rattle.std.proofs.Common.{◌≡◌, ◌||◌, drop}
use Rattle.std.specs.List.{list_any}
use Rattle.gw_text.specs.model.Names.{Key}
use Rattle.gw_deps.specs.Edges.{has_key}
use Rattle.gw_deps.specs.Touching.{is_held_parent}
use Rattle.gw_deps.proofs.touching.add_parents.Given as goal

abbrev pub invariant-parents : goal.invariant-parents
invariant-parents l = (k : Key) → (has_key k l.gateways.list || list_any (is_held_parent l.world.world k) (drop l.parent-index l.parent-items)) ≡ (list_any (is_held_parent l.world.world k) l.parent-items || has_key k l.fn.gateways.list)
