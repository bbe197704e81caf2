-- By what stands at the place of the key.
use Rattle.std.proofs.Common.{◌∙◌, ap, sym, subst}
use Rattle.std.proofs.lemmas.Result.{IfOk-weaker}
use Rattle.gw_kept.proofs.Ordering.{ordered_with}
use Rattle.gw_kept.proofs.Turning.{found_with}
use Rattle.gw_kept.proofs.changed.replaced.Goals as goal
use Rattle.gw_kept.specs.Places.{IsInOrder, kept_at}

pub returns-clause-order : goal.returns-clause-order
returns-clause-order g c =
    let key = g.T.Kept.key_of in
    IfOk-weaker c.with_at.result _ _
    (λ changed is. subst (IsInOrder key) (sym is) (ordered_with key c.args.key.now c.place_in-place.result c.args.value c.args.list c.requires.order c.place_in-place.ensures c.requires.own))
    c.with_at.ensures

pub returns-clause-found : goal.returns-clause-found
returns-clause-found g c =
    let key = g.T.Kept.key_of in
    IfOk-weaker c.with_at.result _ _
    (λ changed is k. ap (kept_at key k) is ∙ found_with key c.args.key.now c.place_in-place.result c.args.value c.args.list c.place_in-place.ensures c.requires.own k)
    c.with_at.ensures
