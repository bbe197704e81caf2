-- The numbers are those of what is kept.
use Rattle.std.proofs.Common.{◌≡◌, ◌∙◌, ap, sym, get_or}
use Rattle.std.specs.Arc.{arc_value}
use Rattle.gw_eval.proofs.Keeping.{attached_by_kept}
use Rattle.gw_eval.specs.Kept.{kept_routes_of}
use Rattle.gw_text.specs.model.Statuses.{attached_at}
use Rattle.gw_kept.specs.Held.{Held}
use Rattle.gw_kept.proofs.held.KeptRoutes.gateway_status.Goals as goal

pub eval_counted_gateway-requires-clause-numbers : goal.eval_counted_gateway-requires-clause-numbers
eval_counted_gateway-requires-clause-numbers g c place within =
    let controller = arc_value c.self.inside.controller in
    let w = c.args.world.now.world in
    let key = c.args.key.now in
    let same : c.self.inside.kept ≡ kept_routes_of controller w =
    ap (λ (h : Held). h.kept) c.self.view_is ∙ c.requires ∙ ap (λ (h : Held). kept_routes_of h.controller w) (sym c.self.view_is) in
    let numbers : c.as_slice-attached.result.now ≡ c.in_ok-numbers.numbers.items = c.as_slice-attached.ensures.value in
    ap (λ ns. get_or ns place 0) numbers
    ∙ c.in_ok-numbers.ensures.numbers place (rw numbers at within)
    ∙ c.self.invariant.counts_are key place
    ∙ attached_by_kept controller w key place c.self.inside.kept same
    ∙ ap (λ name. attached_at name w key place) (sym c.deref.ensures)
