-- The statuses so far, and those of the rest, are those of all Gateways.
use Rattle.std.proofs.Common.{◌≡◌, ◌+◌, ◌++◌, drop, map, filter}
use Rattle.gw_text.specs.model.Stored.{objects_of}
use Rattle.gw_text.specs.model.Statuses.{is_managed, gateway_status_of}
use Rattle.gw_eval.proofs.gateways.gateway_statuses.Given as goal

abbrev pub invariant-gateways : goal.invariant-gateways
invariant-gateways g l = record {
  statuses :
      l.all.items ++ map (gateway_status_of l.doors l.controller l.world.world) (filter (is_managed l.controller l.world.world) (objects_of (drop l.place l.world.world.gateways)))
      ≡ map (gateway_status_of l.doors l.controller l.world.world) (filter (is_managed l.controller l.world.world) (objects_of l.world.world.gateways));
  steps : l.steps ≡ l.fn.steps + l.place;
}
