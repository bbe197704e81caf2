-- The comparison of the two texts, each piece by piece.
use Rattle.std.proofs.Common.{◌≡◌, [], ◌∷◌, ◌∙◌, refl, ap, rules}
use Rattle.std.specs.Ordering.{nat_cmp, is_lt}
use Rattle.std.proofs.lemmas.Iterator.{YieldsList-from_slice}
use Rattle.std.proofs.lemmas.Iterator.Consumers.{YieldsList-from_chain}
use Rattle.std.proofs.lemmas.Iterator.Search.{cmp_from_yields_List}
use Rattle.gw_text.specs.model.Names.{separator}
use Rattle.gw_text.proofs.key.Key.is_before.Goals as goal

pub returns : goal.returns
returns c =
    let key = c.args.self.now in
    c.is_lt.ensures ∙ ap is_lt (cmp_from_yields_List (λ other it. it ≡ other) _ nat_cmp _ c.cmp.ensures.ran
    (YieldsList-from_chain (YieldsList-from_chain (YieldsList-from_slice key.namespace (search rules)) (YieldsList-from_slice (separator key.namespace) (search rules)) (search rules) (search rules)) (YieldsList-from_slice key.name (search rules)) (search rules) (search rules))
    (λ it e. rw e (YieldsList-from_chain (YieldsList-from_slice c.args.namespace.now (search rules)) (YieldsList-from_slice (47 ∷ []) (search rules)) (search rules) (search rules)))
    (λ x y. refl))
