-- The times so far, with those of the rest, are those of all.
use Rattle.std.proofs.Common.{◌≡◌, ◌≤◌, ◌++◌, ◌-◌, drop, length}
use Rattle.std.specs.List.{flat_map}
use Rattle.gw_stamp.specs.Entries.{stamp_at}
use Rattle.gw_stamp.specs.Stamping.{times_in}
use Rattle.gw_stamp.specs.Stated.{route_stated}
use Rattle.gw_stamp.proofs.times.push_routes.Given as goal

abbrev pub invariant-pieces : goal.invariant-pieces
invariant-pieces l = record {
  within : l.first ≤ length l.statuses;
  times : l.times ++ flat_map (λ s. times_in (stamp_at l.stamps) (route_stated s)) (drop l.first l.statuses) ≡ l.fn.times ++ flat_map (λ s. times_in (stamp_at l.stamps) (route_stated s)) l.statuses;
}

abbrev pub decreases-pieces : goal.decreases-pieces
decreases-pieces l = length l.statuses - l.first
