-- What is made of what is kept follows.
use Rattle.std.proofs.Common.{◌≡◌, ◌∙◌, ◌++◌, IfSome, Option, ap, map, refl, sym, subst, option_to_list, rules}
use Rattle.std.specs.Arc.{arc_value}
use Rattle.std.specs.Option.{option_copied}
use Rattle.gw_kept.specs.Counts.{AreCounts}
use Rattle.gw_eval.specs.Kept.{KeptRoute}
use Rattle.gw_kept.proofs.With.{found_after, held_after, same_after, take_all}
use Rattle.gw_kept.specs.Held.{Held, IsEvaluated, door_with}
use Rattle.gw_kept.specs.Places.{with_at}
use Rattle.gw_kept.proofs.held.KeptRoutes.with.Goals as goal

pub changed_doors-requires-clause-tables : goal.changed_doors-requires-clause-tables
changed_doors-requires-clause-tables c =
    let controller = arc_value c.self.inside.controller in
    let fresh : IfSome c.args.value (IsEvaluated controller) =
    subst (λ n. IfSome c.args.value (IsEvaluated n)) (sym (ap (λ (h : Held). h.controller) c.self.view_is)) c.requires.evaluated in
    take_all controller c.args.key.now c.place_in-place.result c.args.value (option_copied c.value_of-fresh.result) c.self.inside.kept c.self.inside.statuses c.self.inside.counts c.self.inside.doors.items
    c.self.invariant c.place_in-place.ensures c.requires.own fresh c.value_of-fresh.ensures

pub invariant_of-result : goal.invariant_of-result
invariant_of-result c =
    let controller = arc_value c.self.inside.controller in
    let place = c.place_in-place.result in
    let fresh : IfSome c.args.value (IsEvaluated controller) =
    subst (λ n. IfSome c.args.value (IsEvaluated n)) (sym (ap (λ (h : Held). h.controller) c.self.view_is)) c.requires.evaluated in
    let made : c.in_ok-statuses.statuses ≡ with_at place (option_to_list c.in_ok-status_of.field-0) c.self.inside.statuses = first_of (search rules, cc) in
    let now : c.in_ok-kept.kept ≡ with_at place (option_to_list c.args.value) c.self.inside.kept = first_of (search rules, cc) in
    held_after controller c.args.key.now place c.args.value c.self.inside.kept c.self.inside.statuses c.self.inside.counts c.self.inside.doors.items
    c.self.invariant c.place_in-place.ensures c.requires.own fresh
    controller c.in_ok-kept.kept c.in_ok-statuses.statuses c.in_ok-counts.counts c.in_ok-doors.doors.items
    refl now
    (made ∙ ap (λ o. with_at place (option_to_list o) c.self.inside.statuses) c.in_ok-status_of.ensures)
    (λ others are. subst (λ (o : Option KeptRoute). AreCounts (option_to_list o ++ others) c.in_ok-counts.counts) c.value_of-fresh.ensures
    (c.in_ok-counts.ensures others (subst (λ (o : Option KeptRoute). AreCounts (option_to_list o ++ others) c.self.inside.counts) (sym c.former.ensures) are)))
    (c.in_ok-doors.ensures
    ∙ ap (λ (o : Option KeptRoute). map (door_with place (option_to_list o)) c.self.inside.doors.items) c.value_of-fresh.ensures)

pub returns-clause-found : goal.returns-clause-found
returns-clause-found c other =
    let now : c.in_ok-kept.kept ≡ with_at c.place_in-place.result (option_to_list c.args.value) c.self.inside.kept = first_of (search rules, cc) in
    found_after c.args.key.now c.place_in-place.result c.args.value c.self.inside.kept c.args.self.kept c.in_ok-kept.kept (ap (λ (h : Held). h.kept) c.self.view_is)
    c.place_in-place.ensures c.requires.own now other

pub returns-clause-same : goal.returns-clause-same
returns-clause-same c =
    let place = c.place_in-place.result in
    same_after place (option_to_list c.args.value) c.args.self (arc_value c.self.inside.controller) (arc_value c.self.inside.controller) c.self.inside.kept c.in_ok-kept.kept
    c.self.inside.doors.items c.in_ok-doors.doors.items c.self.view_is refl
    (c.in_ok-doors.ensures
    ∙ ap (λ (o : Option KeptRoute). map (door_with place (option_to_list o)) c.self.inside.doors.items) c.value_of-fresh.ensures)
