-- Of each key that isn't among those behind it is told what it is to be.
use Rattle.std.proofs.Common.{◌≡◌, ◌+◌, false, drop}
use Rattle.gw_text.specs.model.Names.{Key}
use Rattle.gw_deps.specs.Edges.{has_key}
use Rattle.gw_eval.specs.Kept.{kept_route_at}
use Rattle.gw_kept.specs.Held.{kept_route_key}
use Rattle.gw_kept.specs.Places.{kept_at}
use Rattle.gw_resolve.proofs.evaluation.routes_after.Given as goal

abbrev pub invariant-keys : goal.invariant-keys
invariant-keys g l = record {
  told : (k : Key) → has_key k (drop l.key-index l.touched.routes) ≡ false → kept_at kept_route_key k l.kept.kept ≡ kept_route_at l.former.controller l.world.world k;
  same : l.kept ≡ record l.former { kept = l.kept.kept };
  steps : l.steps ≡ l.fn.steps + l.key-index;
}
