-- The Gateways so far, and those of the Routes to come, are those of all.
use Rattle.std.proofs.Common.{◌≡◌, ◌||◌, drop}
use Rattle.std.specs.List.{list_any}
use Rattle.gw_text.specs.model.Names.{Key}
use Rattle.gw_text.specs.model.World.{route_at}
use Rattle.gw_deps.specs.Edges.{has_key}
use Rattle.gw_deps.specs.Touching.{has_held_parent, is_some_with}
use Rattle.gw_deps.proofs.touching.gateways_over.Given as goal

abbrev pub invariant-routes : goal.invariant-routes
invariant-routes l = (k : Key) → (has_key k l.gateways.list || list_any (λ r. is_some_with (has_held_parent l.world.world k) (route_at l.world.world r)) (drop l.route-index l.routes))
    ≡ list_any (λ r. is_some_with (has_held_parent l.world.world k) (route_at l.world.world r)) l.routes
