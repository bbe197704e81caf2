-- A door more.
use Rattle.std.proofs.Common.{◌≡◌, ◌∙◌, ◌<◌, ◌++◌, ◌∷◌, [], All, List, ap, get_or, length, map, rules, subst, sym, take}
use Rattle.std.proofs.lemmas.List.{map-append, map_more}
use Rattle.std.proofs.lemmas.List.Elements.{All-append, All-cons, All-nil}
use Rattle.gw_kept.specs.Held.{DoorTables, IsOf, ServedDoor, served_anew, served_by}
use Rattle.gw_kept.proofs.held.doors_anew.Goals as goal

pub door_anew-requires-clause-rows : goal.door_anew-requires-clause-rows
door_anew-requires-clause-rows c l = c.requires.rows c.door-item.result.door l

pub doors-preserved : goal.doors-preserved
doors-preserved c =
    let f = served_anew c.args.doors.now c.args.controller.now c.args.world.now.world c.args.gateway.now in
    let held = c.args.held.now in
    let i = c.doors.door-index in
    let item = c.door-item.result in
    let new = c.in_ok-door_anew.field-0 in
    let within : i < length held = search rules in
    let here : item ≡ get_or held i item = search rules in
    let before = map served_by (take i held) in
    let anew : served_by new ≡ f (served_by (get_or held i item)) = c.in_ok-door_anew.ensures.served ∙ ap (λ (d : DoorTables). f (served_by d)) here in
    record {
      served = ap (map served_by) c.in_ok-push.ensures.items
          ∙ map-append served_by c.doors.all.items (new ∷ [])
          ∙ ap (λ (ss : List ServedDoor). ss ++ served_by new ∷ []) c.doors.invariant.served
          ∙ ap (λ (s : ServedDoor). map f before ++ s ∷ []) anew
          ∙ sym (ap (map f) (map_more served_by held i item within) ∙ map-append f before (served_by (get_or held i item) ∷ []));
      tables = subst (All (λ (d : DoorTables). All (IsOf d.door c.args.kept.now) d.tables)) (sym c.in_ok-push.ensures.items)
          (All-append (λ (d : DoorTables). All (IsOf d.door c.args.kept.now) d.tables) c.doors.all.items (new ∷ []) c.doors.invariant.tables
          (All-cons (λ (d : DoorTables). All (IsOf d.door c.args.kept.now) d.tables) new [] c.in_ok-door_anew.ensures.tables (All-nil (λ (d : DoorTables). All (IsOf d.door c.args.kept.now) d.tables))));
    }
