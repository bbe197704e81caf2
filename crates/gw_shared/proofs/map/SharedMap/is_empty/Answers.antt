-- Nothing stands in any bucket.
use Rattle.std.proofs.Common.{◌∙◌, sym, ap}
use Rattle.gw_shared.specs.model.Buckets.{value_at}
use Rattle.gw_shared.proofs.Placing.{none_there}
use Rattle.gw_shared.proofs.map.SharedMap.is_empty.Goals as goal

pub returns : goal.returns
returns g c = λ empty key.
    ap (λ l. value_at l key) (sym c.self.view_is) ∙ none_there c.self.inside.buckets key (sym c.are_empty.ensures ∙ empty)
