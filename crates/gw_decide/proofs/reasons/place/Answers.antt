-- The search answers by the order of the keys.
use Rattle.std.proofs.Common.{rules}
use Rattle.std.proofs.lemmas.Fn.{always_returns_same}
use Rattle.gw_text.specs.model.Names.{key_order}
use Rattle.gw_decide.proofs.Places.{found}
use Rattle.gw_decide.proofs.reasons.place.Goals as goal

pub returns-clause-place : goal.returns-clause-place
returns-clause-place c =
    let key = c.args.key.now in
    found key c.args.entries.now _ c.requires.keys c.formed-key.ensures.form c.requires.order c.binary_search_by.ensures.bound
    (c.binary_search_by.ensures.position (λ e. key_order e.0 key) (always_returns_same _ _ _ (λ a r q k. search rules)))
