-- The text so far, with the lines of the rest, is the whole.
use Rattle.std.proofs.Common.{◌≡◌, ◌≤◌, ◌++◌, ◌-◌, drop, length, string_bytes}
use Rattle.gw_status.specs.StatusText.{gateways_text}
use Rattle.gw_status.proofs.write.push_gateways.Given as goal

abbrev pub invariant-pieces : goal.invariant-pieces
invariant-pieces l = record {
  within : l.at ≤ length l.statuses;
  text : string_bytes l.text ++ gateways_text (drop l.at l.statuses) ≡ string_bytes l.fn.text ++ gateways_text l.statuses;
}

abbrev pub decreases-pieces : goal.decreases-pieces
decreases-pieces l = length l.statuses - l.at
