-- The statuses so far are those of the classes so far.
use Rattle.std.proofs.Common.{◌≡◌, ◌++◌, drop, map, filter}
use Rattle.gw_text.specs.model.Stored.{objects_of}
use Rattle.gw_text.specs.model.Statuses.{is_ours, class_status_of}
use Rattle.gw_eval.proofs.classes.class_statuses.Given as goal

abbrev pub invariant-classes : goal.invariant-classes
invariant-classes l =
    l.all ++ map class_status_of (filter (is_ours l.controller) (objects_of (drop l.class-index l.class-items)))
    ≡ map class_status_of (filter (is_ours l.controller) (objects_of l.world.world.classes))
