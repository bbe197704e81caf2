-- All that is kept is that of the objects, and so are the statuses.
use Rattle.std.proofs.Common.{◌≡◌, ◌∙◌, ℕ, List, ap, ap₂, map, rules}
use Rattle.std.specs.Arc.{arc_value}
use Rattle.gw_text.specs.model.Doors.{Door}
use Rattle.gw_text.specs.model.Statuses.{class_statuses_of, gateway_statuses_of, route_statuses_of}
use Rattle.gw_kept.specs.Held.{Held, served_door}
use Rattle.gw_resolve.proofs.Keeping.{all_statuses, routes_of_kept}
use Rattle.gw_resolve.proofs.Telling.{all_kept}
use Rattle.gw_resolve.specs.Cores.{held_of}
use Rattle.gw_resolve.proofs.evaluation.evaluate.Goals as goal

pub tables_of-requires : goal.tables_of-requires
tables_of-requires g c =
    let doors = arc_value c.args.doors.now in
    let controller = arc_value c.args.controller.now in
    let w = c.args.world.now.world in
    let routes = c.in_ok-routes.routes in
    all_kept doors controller w c.args.former.now routes c.in_ok-kept.kept c.requires.controller c.requires.doors c.in_ok-routes.ensures.kept
    (c.in_ok-kept.ensures ∙ ap (λ (ds : List Door). record routes { doors = map (λ d. served_door ds routes.controller w d.door) routes.doors }) c.deref-2.ensures)

pub returns-clause-kept : goal.returns-clause-kept
returns-clause-kept g c =
    let doors = arc_value c.args.doors.now in
    let controller = arc_value c.args.controller.now in
    let w = c.args.world.now.world in
    let routes = c.in_ok-routes.routes in
    all_kept doors controller w c.args.former.now routes c.in_ok-kept.kept c.requires.controller c.requires.doors c.in_ok-routes.ensures.kept
    (c.in_ok-kept.ensures ∙ ap (λ (ds : List Door). record routes { doors = map (λ d. served_door ds routes.controller w d.door) routes.doors }) c.deref-2.ensures)

pub returns-clause-evaluated : goal.returns-clause-evaluated
returns-clause-evaluated g c =
    let doors = arc_value c.args.doors.now in
    let controller = arc_value c.args.controller.now in
    let w = c.args.world.now.world in
    let routes = c.in_ok-routes.routes in
    let kept = c.in_ok-kept.kept in
    let are : kept ≡ held_of doors controller w =
    all_kept doors controller w c.args.former.now routes kept c.requires.controller c.requires.doors c.in_ok-routes.ensures.kept
    (c.in_ok-kept.ensures ∙ ap (λ (ds : List Door). record routes { doors = map (λ d. served_door ds routes.controller w d.door) routes.doors }) c.deref-2.ensures) in
    let classes : c.in_ok-class_statuses.field-0 ≡ class_statuses_of controller w = search rules in
    let gateways : c.in_ok-gateways_after.field-0 ≡ gateway_statuses_of doors controller w =
    c.in_ok-gateways_after.ensures.statuses ∙ ap₂ (λ (ds : List Door) (n : List ℕ). gateway_statuses_of ds n w) c.deref-4.ensures (ap (λ (h : Held). h.controller) are) in
    let statuses : c.in_ok-statuses.field-0 ≡ route_statuses_of controller w =
    c.in_ok-statuses.ensures ∙ routes_of_kept controller w kept.kept (ap (λ (h : Held). h.kept) are) in
    record { statuses_are = all_statuses doors controller w _ _ _ classes gateways statuses; tables_are = search rules }
