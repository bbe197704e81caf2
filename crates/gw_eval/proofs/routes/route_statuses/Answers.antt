-- Each Route has its status, and is counted.
use Rattle.std.proofs.Common.{◌≡◌, ◌^◌, ◌<◌, ◌∷◌, [], ap, rules, length, get_or, take, arith}
use Rattle.gw_text.specs.model.Stored.{objects_of}
use Rattle.gw_text.specs.model.Statuses.{route_status_of}
use Rattle.gw_eval.proofs.Counting.{mapped_step, objects_more, of_all_routes, of_no_routes, of_one_more, room_for_more}
use Rattle.gw_eval.proofs.routes.route_statuses.Goals as goal

pub routes-init : goal.routes-init
routes-init g c = record {
  home = search rules;
  statuses = search rules;
  counted = of_no_routes c.args.controller.now c.args.world.now.world c.args.counts.now c.requires.none;
  steps = omega arith;
}

pub counted_entries-requires-clause-room : goal.counted_entries-requires-clause-room
counted_entries-requires-clause-room g c =
    room_for_more c.args.controller.now c.args.world.now.world c.routes.route-index c.routes.counts (2 ^ 63) (search rules) (search rules) c.routes.invariant.counted

pub routes-preserved : goal.routes-preserved
routes-preserved g c =
    let controller = c.args.controller.now in
    let world = c.args.world.now.world in
    let i = c.routes.route-index in
    let item = c.route-item.result in
    let within : i < length world.routes = search rules in
    let here : item ≡ get_or world.routes i item = search rules in
    let done = c.in_ok-entries.ensures in
    record {
      home = search rules;
      statuses = mapped_step (route_status_of controller world) _ c.routes.all.items (c.in_ok-shared_status.field-0 ∷ []) (objects_of (take i world.routes)) (item.object ∷ []) _
          c.in_ok-push.ensures.items c.routes.invariant.statuses (ap (λ s. s ∷ []) (search rules)) (objects_more world.routes i item within here);
      counted = of_one_more controller world i item c.routes.counts _ within here c.routes.invariant.counted done.rows (rw c.deref-in-routes-3.ensures at done.numbers);
      steps = search rules;
    }

pub returns-clause-numbers : goal.returns-clause-numbers
returns-clause-numbers g c = of_all_routes c.args.controller.now c.args.world.now.world c.routes.route-index c.routes.counts (search rules) c.routes.invariant.counted
