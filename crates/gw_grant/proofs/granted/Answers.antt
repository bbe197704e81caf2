-- Some grant permits it of those that are stored, as of their objects.
use Rattle.std.proofs.Common.{◌≡◌, Bool, List, [], ◌∷◌, ◌||◌, refl, ap, ◌∙◌, rules, tests}
use Rattle.std.specs.List.{list_any}
use Rattle.std.proofs.lemmas.Iterator.{YieldsList-from_slice}
use Rattle.std.proofs.lemmas.Iterator.Search.{any_from_yields_List}
use Rattle.gw_text.specs.model.References.{permits}
use Rattle.gw_text.specs.model.Stored.{Stored, objects_of}
use Rattle.gw_grant.proofs.granted.Goals as goal

-- A test of objects, over stored ones.
some_object : {T : Type 0} (p : T → Bool) (stored : List (Stored T)) → list_any (λ s. p s.object) stored ≡ list_any p (objects_of stored)
some_object p [] = refl
some_object p (s ∷ stored) = ap (λ b. p s.object || b) (some_object p stored)

pub returns : goal.returns
returns c =
    let test = permits c.args.route_namespace.now c.args.service.now in
    any_from_yields_List (λ s. test s.object) _ _ _ c.any.ensures.ran (YieldsList-from_slice c.args.grants.now cc) (λ x b q k. search (rules, tests))
    ∙ some_object test c.args.grants.now
