-- The doors, of which those of the Gateways behind it are still to be served anew.
use Rattle.std.proofs.Common.{◌≡◌, drop, map}
use Rattle.gw_resolve.proofs.Telling.{anew_by}
use Rattle.gw_resolve.proofs.evaluation.doors_after.Given as goal

abbrev pub invariant-gateways : goal.invariant-gateways
invariant-gateways l = record {
  doors : map (anew_by l.doors l.fn.former.controller l.world.world (drop l.gateway-index l.touched.gateways)) l.kept.doors
      ≡ map (anew_by l.doors l.fn.former.controller l.world.world l.touched.gateways) l.fn.former.doors;
  same : l.kept ≡ record l.fn.former { doors = l.kept.doors };
}
