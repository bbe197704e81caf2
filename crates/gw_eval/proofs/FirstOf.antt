-- The first reason of all rules, rule by rule.
use Rattle.std.proofs.Common.{◌≡◌, ◌∙◌, refl, sym, ap, ℕ, suc, ◌+◌, ◌<◌, List, [], ◌∷◌, ◌++◌, drop, get_or, length, Option, None, is_some, true, true≢false, add-one, flat_map}
use Rattle.std.specs.List.{filter_map}
use Rattle.std.proofs.Math.Seq.{drop-cons}
use Rattle.std.proofs.lemmas.List.Elements.{filter_map-append}
use Rattle.gw_text.specs.declared.condition.Reason.{Reason}
use Rattle.gw_text.specs.model.References.{backend_state_in, first_of, resolved_refs_of, unresolved}
use Rattle.gw_text.specs.model.Routes.{HttpRoute, Rule}
use Rattle.gw_text.specs.model.World.{World}
use Rattle.gw_eval.specs.Results.{first_fault_in, first_fault_of, resolved_in}

rest_of_rules : (w : World) (namespace : List ℕ) (rules : List Rule) (i : ℕ) (rule : Rule) → i < length rules → rule ≡ get_or rules i rule →
    filter_map (λ b. unresolved (backend_state_in w namespace b)) (flat_map (λ r. r.backend_refs) (drop i rules))
    ≡ filter_map (λ b. unresolved (backend_state_in w namespace b)) rule.backend_refs
    ++ filter_map (λ b. unresolved (backend_state_in w namespace b)) (flat_map (λ r. r.backend_refs) (drop (i + 1) rules))
rest_of_rules w namespace rules i rule within is =
    rw (drop-cons rules i rule within, ← is, add-one)
    (filter_map-append (λ b. unresolved (backend_state_in w namespace b)) rule.backend_refs (flat_map (λ r. r.backend_refs) (drop (suc i) rules)))

none_first : {X : Type 0} (xs ys : List X) → first_of xs ≡ None → first_of (xs ++ ys) ≡ first_of ys
none_first [] ys none = refl
none_first (x ∷ xs) ys none = absurd (true≢false (ap is_some none))

some_first : {X : Type 0} (xs ys : List X) (found : Option X) → found ≡ first_of xs → is_some found ≡ true → found ≡ first_of (xs ++ ys)
some_first (x ∷ xs) ys found is some = is
some_first [] ys found is some = absurd (true≢false (sym some ∙ ap is_some is))

-- a rule without a reason is passed over
pub rule_passed : (w : World) (namespace : List ℕ) (rules : List Rule) (i : ℕ) (rule : Rule) → i < length rules → rule ≡ get_or rules i rule →
    first_fault_of w namespace rule.backend_refs ≡ None →
    first_fault_in w namespace (drop i rules) ≡ first_fault_in w namespace (drop (i + 1) rules)
unfolding first_fault_in first_fault_of
rule_passed w namespace rules i rule within is none =
    rw (rest_of_rules w namespace rules i rule within is) (none_first (filter_map (λ b. unresolved (backend_state_in w namespace b)) rule.backend_refs) _ none)

-- a rule with a reason has the first
pub rule_first : (w : World) (namespace : List ℕ) (rules : List Rule) (i : ℕ) (rule : Rule) (found first : Option Reason) → i < length rules → rule ≡ get_or rules i rule →
    found ≡ first_fault_of w namespace rule.backend_refs → is_some found ≡ true →
    first ≡ first_fault_in w namespace (drop i rules) → found ≡ first
unfolding first_fault_in first_fault_of
rule_first w namespace rules i rule found first within is here some rest =
    rw (rest, rest_of_rules w namespace rules i rule within is) (some_first (filter_map (λ b. unresolved (backend_state_in w namespace b)) rule.backend_refs) _ found here some)

-- a Route's rules decide
pub resolved_by_rules : (w : World) (r : HttpRoute) → resolved_in w r.meta.key.namespace r.rules ≡ resolved_refs_of w r
unfolding first_fault_in first_fault_of resolved_in resolved_refs_of
resolved_by_rules w r = refl
