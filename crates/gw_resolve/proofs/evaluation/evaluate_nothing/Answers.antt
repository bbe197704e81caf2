-- Nothing stands in any order, and no listener is served.
use Rattle.std.proofs.Common.{◌≡◌, ◌∙◌, All, ap, false, map, sym, subst}
use Rattle.std.specs.Arc.{arc_value}
use Rattle.gw_text.specs.model.Doors.{Door}
use Rattle.gw_deps.specs.Edges.{has_key}
use Rattle.gw_kept.specs.Held.{Held, ServedDoor, gateway_status_key, served_door}
use Rattle.gw_kept.specs.Places.{IsInOrder}
use Rattle.gw_resolve.proofs.Nothing.{alone_doors, alone_left, no_statuses}
use Rattle.gw_resolve.proofs.evaluation.evaluate_nothing.Goals as goal

pub evaluate-requires-clause-gateways_order : goal.evaluate-requires-clause-gateways_order
evaluate-requires-clause-gateways_order g c = subst (IsInOrder gateway_status_key) (sym c.new-gateways.ensures) no_statuses

pub evaluate-requires-clause-doors : goal.evaluate-requires-clause-doors
evaluate-requires-clause-doors g c =
    ap (λ (h : Held). map (λ (d : ServedDoor). d.door) h.doors) c.in_ok-former.ensures ∙ alone_doors c.deref.result.now ∙ c.deref.ensures

pub evaluate-requires-clause-served : goal.evaluate-requires-clause-served
evaluate-requires-clause-served g c =
    let doors = arc_value c.args.doors.now in
    let controller = arc_value c.args.controller.now in
    let w = c.args.world.now.world in
    let touched = c.new-2.result.list in
    subst (All (λ (d : ServedDoor). has_key d.door.gateway touched ≡ false → d ≡ served_door doors controller w d.door)) (sym (ap (λ (h : Held). h.doors) c.in_ok-former.ensures))
    (alone_left (λ (door : Door). has_key door.gateway touched ≡ false) doors controller w c.requires.nothing c.deref.result.now)
