-- By the laws of what an event leaves as it was.
use Rattle.std.proofs.Common.{◌∙◌, ap, inr, map, refl}
use Rattle.gw_kept.specs.Held.{Held, ServedDoor}
use Rattle.gw_store.specs.SeenEvents.{seen_event}
use Rattle.gw_text.specs.model.World.{World, apply}
use Rattle.gw_resolve.proofs.Keeping.{gateways_ordered}
use Rattle.gw_resolve.proofs.Telling.{doors_of_served}
use Rattle.gw_resolve.proofs.Untouched.{door_left, gateway_left, route_left}
use Rattle.gw_resolve.proofs.staying.others_stay.Goals as goal

pub returns-clause-routes : goal.returns-clause-routes
returns-clause-routes c at k other =
    let controller = c.args.controller.now in
    let w = c.args.world.now.world in
    let event = seen_event c.args.event.now in
    let after : World = apply w (record { event = event; at = at }) in
    route_left controller w after c.args.kept.now.kept k (ap (λ (h : Held). h.kept) c.requires.kept)
    (c.routes_stay.ensures controller w after event at k (inr refl) c.objects_stand_in_order.ensures
    (c.touched_keys_are_all.ensures.routes w event at c.args.touched.now k (c.requires.touched at) other))

pub returns-clause-served : goal.returns-clause-served
returns-clause-served c at =
    let doors = c.args.doors.now in
    let controller = c.args.controller.now in
    let w = c.args.world.now.world in
    let event = seen_event c.args.event.now in
    let after : World = apply w (record { event = event; at = at }) in
    door_left doors controller w after c.args.kept.now.doors c.args.touched.now.gateways (ap (λ (h : Held). h.doors) c.requires.kept)
    (λ k other. c.gateways_stay.ensures doors controller w after event at k (inr refl) c.objects_stand_in_order.ensures
    (c.touched_keys_are_all.ensures.gateways w event at c.args.touched.now k (c.requires.touched at) other))

pub returns-clause-doors : goal.returns-clause-doors
returns-clause-doors c =
    ap (λ (h : Held). map (λ (d : ServedDoor). d.door) h.doors) c.requires.kept ∙ doors_of_served c.args.doors.now c.args.controller.now c.args.world.now.world c.args.doors.now

pub returns-clause-gateways_order : goal.returns-clause-gateways_order
returns-clause-gateways_order c =
    rw c.requires.gateways (gateways_ordered c.args.doors.now c.args.controller.now c.args.world.now.world (rw c.gateways-gateways.ensures.value at c.gateways-gateways.ensures.order))

pub returns-clause-gateways : goal.returns-clause-gateways
returns-clause-gateways c at k other =
    let doors = c.args.doors.now in
    let controller = c.args.controller.now in
    let w = c.args.world.now.world in
    let event = seen_event c.args.event.now in
    let after : World = apply w (record { event = event; at = at }) in
    gateway_left doors controller w after c.args.gateways.now k c.requires.gateways (rw c.gateways-gateways.ensures.value at c.gateways-gateways.ensures.order)
    (c.gateways_stay.ensures doors controller w after event at k (inr refl) c.objects_stand_in_order.ensures
    (c.touched_keys_are_all.ensures.gateways w event at c.args.touched.now k (c.requires.touched at) other))
