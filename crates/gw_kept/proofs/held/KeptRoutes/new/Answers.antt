-- Nothing is kept, and no listener is served.
use Rattle.std.proofs.Common.{◌∙◌, [], List, ap, map}
use Rattle.std.specs.Arc.{arc_value}
use Rattle.gw_eval.specs.Kept.{KeptRoute}
use Rattle.gw_kept.proofs.Beginning.{alone_held, alone_served}
use Rattle.gw_kept.specs.Held.{DoorTables, ServedDoor, served_by}
use Rattle.gw_kept.proofs.held.KeptRoutes.new.Goals as goal

pub invariant_of-result : goal.invariant_of-result
invariant_of-result c =
    alone_held (arc_value c.args.controller) c.new.result c.new-2.result c.new-3.result c.in_ok-doors_without_listeners.field-0.items c.args.doors.now
    c.new.ensures c.new-2.ensures c.new-3.ensures c.in_ok-doors_without_listeners.ensures

pub returns : goal.returns
returns c =
    ap (λ (kept : List KeptRoute). record { controller = arc_value c.args.controller; kept = kept; doors = map served_by c.in_ok-doors_without_listeners.field-0.items }) c.new.ensures
    ∙ ap (λ (ds : List DoorTables). record { controller = arc_value c.args.controller; kept = []; doors = map served_by ds }) c.in_ok-doors_without_listeners.ensures
    ∙ ap (λ (ss : List ServedDoor). record { controller = arc_value c.args.controller; kept = []; doors = ss }) (alone_served c.args.doors.now)
