use Rattle.std.proofs.Common.{◌≡◌, refl, rules}
use Rattle.std.specs.Ordering.{nat_cmp}
use Rattle.std.proofs.lemmas.Iterator.{YieldsList-from_slice}
use Rattle.std.proofs.lemmas.Iterator.Consumers.{YieldsList-from_chain}
use Rattle.std.proofs.lemmas.Iterator.Search.{cmp_from_yields_List}
use Rattle.gw_text.specs.model.Names.{separator}
use Rattle.gw_text.proofs.key.Key.compare_texts.Goals as goal

pub returns : goal.returns
returns c =
    let left = c.args.self.now in
    let right = c.args.other.now in
    cmp_from_yields_List (λ other it. it ≡ other) _ nat_cmp _ c.cmp.ensures.ran
    (YieldsList-from_chain (YieldsList-from_chain (YieldsList-from_slice left.namespace (search rules)) (YieldsList-from_slice (separator left.namespace) (search rules)) (search rules) (search rules)) (YieldsList-from_slice left.name (search rules)) (search rules) (search rules))
    (λ it e. rw e (YieldsList-from_chain (YieldsList-from_chain (YieldsList-from_slice right.namespace (search rules)) (YieldsList-from_slice (separator right.namespace) (search rules)) (search rules) (search rules)) (YieldsList-from_slice right.name (search rules)) (search rules) (search rules)))
    (λ x y. refl)
