-- The conditions so far, with those of the rest, are all.
use Rattle.std.proofs.Common.{◌≡◌, ◌++◌, drop}
use Rattle.std.specs.List.{flat_map}
use Rattle.gw_stamp.specs.Stated.{listener_stated}
use Rattle.gw_stamp.proofs.stated.push_listeners.Given as goal

abbrev pub invariant-statuses : goal.invariant-statuses
invariant-statuses l = l.stated ++ flat_map (listener_stated l.key) (drop l.status-index l.statuses) ≡ l.fn.stated ++ flat_map (listener_stated l.key) l.statuses
