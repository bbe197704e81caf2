-- The numbers are those of the Routes so far.
use Rattle.std.proofs.Common.{take}
use Rattle.gw_eval.specs.Homes.{IsHome}
use Rattle.gw_eval.proofs.Counting.{AreOfRoutes}
use Rattle.gw_eval.proofs.routes.counts.Given as goal

abbrev pub invariant-routes : goal.invariant-routes
invariant-routes l = record {
  home : IsHome l.world.world l.home;
  counted : AreOfRoutes l.controller l.world.world (take l.route-index l.world.world.routes) l.counts;
}
