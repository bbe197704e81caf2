-- What is done is done for the Routes so far.
use Rattle.std.proofs.Common.{◌≡◌, ◌+◌, map, take}
use Rattle.gw_text.specs.model.Stored.{objects_of}
use Rattle.gw_text.specs.model.Statuses.{route_status_of}
use Rattle.gw_eval.specs.Homes.{IsHome}
use Rattle.gw_eval.proofs.Counting.{AreOfRoutes}
use Rattle.gw_eval.proofs.routes.route_statuses.Given as goal

abbrev pub invariant-routes : goal.invariant-routes
invariant-routes g l = record {
  home : IsHome l.world.world l.home;
  statuses : l.all.items ≡ map (route_status_of l.controller l.world.world) (objects_of (take l.route-index l.world.world.routes));
  counted : AreOfRoutes l.controller l.world.world (take l.route-index l.world.world.routes) l.counts;
  steps : l.steps ≡ l.fn.steps + l.route-index;
}
