-- The rows so far are those of the Gateways so far.
use Rattle.std.proofs.Common.{◌≡◌, map, take}
use Rattle.std.specs.Vec.{vec_items}
use Rattle.gw_eval.specs.Counting.{no_numbers}
use Rattle.gw_eval.proofs.attached.Counts.new.Given as goal

abbrev pub invariant-gateways : goal.invariant-gateways
invariant-gateways l = map vec_items l.rows.items ≡ no_numbers (take l.gateway-index l.world.world.gateways)
