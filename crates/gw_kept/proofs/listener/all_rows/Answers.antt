-- The rows of a Route more.
use Rattle.std.proofs.Common.{◌≡◌, ◌∙◌, ◌++◌, ◌∷◌, ◌<◌, [], List, ap, get_or, length, map, rules, sym, take}
use Rattle.std.proofs.lemmas.List.{map_more}
use Rattle.gw_eval.specs.Candidates.{kept_rows}
use Rattle.gw_rows.specs.model.Rows.{Row}
use Rattle.gw_kept.proofs.listener.all_rows.Goals as goal

pub routes-preserved : goal.routes-preserved
routes-preserved c =
    let f = kept_rows c.args.door.now c.args.listener.now in
    let kept = c.args.kept.now in
    let at = c.routes.at in
    let item = c.item_at.result.now in
    let within : at < length kept = search rules in
    let rows : c.in_ok-new.field-0 ≡ f (get_or kept at item) = c.in_ok-new.ensures ∙ c.in_ok-rows.ensures ∙ ap f (c.item_at.ensures item) in
    c.in_ok-push.ensures.items
    ∙ ap (λ (all : List (List Row)). all ++ c.in_ok-new.field-0 ∷ []) c.routes.invariant
    ∙ ap (λ (r : List Row). map f (take at kept) ++ r ∷ []) rows
    ∙ sym (map_more f kept at item within)
