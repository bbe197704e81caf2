-- The times so far, with those of the rest, are those of all.
use Rattle.std.proofs.Common.{◌≡◌, ◌++◌, drop}
use Rattle.std.specs.List.{flat_map}
use Rattle.gw_stamp.specs.Entries.{stamp_at}
use Rattle.gw_stamp.specs.Stamping.{times_in}
use Rattle.gw_stamp.specs.Stated.{class_stated}
use Rattle.gw_stamp.proofs.times.push_classes.Given as goal

abbrev pub invariant-statuses : goal.invariant-statuses
invariant-statuses l =
    l.times ++ flat_map (λ s. times_in (stamp_at l.stamps) (class_stated s)) (drop l.status-index l.statuses) ≡ l.fn.times ++ flat_map (λ s. times_in (stamp_at l.stamps) (class_stated s)) l.statuses
