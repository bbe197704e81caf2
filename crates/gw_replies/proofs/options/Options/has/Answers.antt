-- The search answers by the order of the names.
use Rattle.std.proofs.Common.{◌∙◌, ap, map, rules}
use Rattle.std.proofs.lemmas.Fn.{always_returns_same}
use Rattle.std.specs.List.{list_any}
use Rattle.gw_text.specs.model.Fields.{same_field_name}
use Rattle.gw_replies.proofs.Finding.{beside, found}
use Rattle.gw_replies.proofs.options.Options.has.Goals as goal

pub returns : goal.returns
returns c =
    let same = same_field_name c.args.name.now in
    c.is_ok.ensures.value
    ∙ found c.args.name.now c.deref.result.now c.binary_search_by.result (search rules) c.binary_search_by.ensures.bound
    (c.binary_search_by.ensures.position (beside c.args.name.now) (always_returns_same _ _ _ (λ a r q k. search rules)))
    ∙ ap (λ names. list_any same (map (λ n. n.now) names)) c.deref.ensures.value
    ∙ ap (list_any same) c.self.view_is
