-- Each Route is counted.
use Rattle.std.proofs.Common.{◌≡◌, ◌^◌, ◌<◌, rules, length, get_or}
use Rattle.gw_eval.proofs.Counting.{of_all_routes, of_no_routes, of_one_more, room_for_more}
use Rattle.gw_eval.proofs.routes.counts.Goals as goal

pub routes-init : goal.routes-init
routes-init c = record {
  home = search rules;
  counted = of_no_routes c.args.controller.now c.args.world.now.world c.in_ok-counts.counts c.in_ok-counts.ensures;
}

pub counted_entries-requires-clause-room : goal.counted_entries-requires-clause-room
counted_entries-requires-clause-room c =
    room_for_more c.args.controller.now c.args.world.now.world c.routes.route-index c.routes.counts (2 ^ 63) (search rules) (search rules) c.routes.invariant.counted

pub routes-preserved : goal.routes-preserved
routes-preserved c =
    let world = c.args.world.now.world in
    let i = c.routes.route-index in
    let item = c.route-item.result in
    let within : i < length world.routes = search rules in
    let here : item ≡ get_or world.routes i item = search rules in
    let done = c.in_ok-counted_entries.ensures in
    record {
      home = search rules;
      counted = of_one_more c.args.controller.now world i item c.routes.counts _ within here c.routes.invariant.counted done.rows (rw c.deref-in-routes-3.ensures at done.numbers);
    }

pub returns-clause-numbers : goal.returns-clause-numbers
returns-clause-numbers c = of_all_routes c.args.controller.now c.args.world.now.world c.routes.route-index c.routes.counts (search rules) c.routes.invariant.counted
