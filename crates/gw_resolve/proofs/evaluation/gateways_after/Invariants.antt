-- Of each key that isn't among those behind it is told what it is to be.
use Rattle.std.proofs.Common.{◌≡◌, ◌+◌, false, drop}
use Rattle.gw_text.specs.model.Names.{Key}
use Rattle.gw_deps.specs.Edges.{has_key}
use Rattle.gw_eval.specs.Results.{gateway_status_at}
use Rattle.gw_kept.specs.Held.{gateway_status_key}
use Rattle.gw_kept.specs.Places.{IsInOrder, kept_at}
use Rattle.gw_resolve.proofs.evaluation.gateways_after.Given as goal

abbrev pub invariant-keys : goal.invariant-keys
invariant-keys g l = record {
  order : IsInOrder gateway_status_key l.all;
  told : (k : Key) → has_key k (drop l.key-index l.touched.gateways) ≡ false → kept_at gateway_status_key k l.all ≡ gateway_status_at l.doors l.kept.controller l.world.world k;
  steps : l.steps ≡ l.fn.steps + l.key-index;
}
