-- What is evaluated out of what is kept of Routes.
use Rattle.std.proofs.Common.{◌≡◌, ◌∙◌, refl, sym, ap, ap₂, ℕ, suc, ◌+◌, ◌<◌, List, [], ◌∷◌, ◌&&◌, ◌||◌, nat_eq, cond, get_or, length, map, arith}
use Rattle.std.specs.List.{count_by, enumerate_from, list_any}
use Rattle.std.proofs.lemmas.List.{get_or-map, length-map}
use Rattle.std.proofs.lemmas.List.Folds.{flat_map-map}
use Rattle.std.proofs.lemmas.List.Sums.{sum_by-cons}
use Rattle.gw_text.specs.model.Doors.{Door}
use Rattle.gw_text.specs.model.Names.{Key, same_key}
use Rattle.gw_text.specs.model.Plans.{Plan, plan_of}
use Rattle.gw_text.specs.model.Routes.{HttpRoute, Rule, parent_key}
use Rattle.gw_text.specs.model.Statuses.{Entry, attached_at, entries_of, is_attached}
use Rattle.gw_text.specs.model.Stored.{Stored, objects_of}
use Rattle.gw_text.specs.model.World.{World}
use Rattle.gw_rows.specs.model.DoorRows.{attached_rows}
use Rattle.gw_rows.specs.model.Rows.{ServedListener}
use Rattle.gw_eval.proofs.Candidates.{rows_of_route}
use Rattle.gw_eval.specs.Candidates.{candidate_rows, candidate_of, candidate_with, kept_rows, no_plan, places_at, planned_rule, planned_rules, rule_with, rules_with}
use Rattle.gw_eval.specs.Kept.{KeptRoute, attached_of, is_at, is_kept_at, kept_route_of, kept_routes_of}

plus_zero : (n : ℕ) → n + 0 ≡ n
plus_zero n = omega arith

plus_suc : (n i : ℕ) → n + suc i ≡ (n + 1) + i
plus_suc n i = omega arith

-- two functions that agree at each place
enumerated_alike : {X Y : Type 0} (f g : ℕ × X → Y) (n : ℕ) (xs : List X) →
    ((i : ℕ) (d : X) → i < length xs → f (n + i, get_or xs i d) ≡ g (n + i, get_or xs i d)) → map f (enumerate_from n xs) ≡ map g (enumerate_from n xs)
enumerated_alike f g n [] alike = refl
enumerated_alike f g n (x ∷ xs) alike =
    ap₂ (λ y ys. y ∷ ys) (rw (plus_zero n) at (alike 0 x (omega arith)))
    (enumerated_alike f g (n + 1) xs (λ i d within. rw (plus_suc n i) at (alike (suc i) d (omega arith))))

from_zero : (n : ℕ) → 0 + n ≡ n
from_zero n = omega arith

-- the rules with the plans that are kept are those that are planned
rules_are : (w : World) (namespace : List ℕ) (rules : List Rule) → rules_with (map (plan_of w namespace) rules) rules ≡ planned_rules w namespace rules
rules_are w namespace rules =
    enumerated_alike (rule_with (map (plan_of w namespace) rules)) (planned_rule w namespace) 0 rules
    (λ i d within. ap (λ (plan : Plan). record { number = 0 + i; rule = get_or rules i d; plan = plan })
    (ap (λ n. get_or (map (plan_of w namespace) rules) n no_plan) (from_zero i) ∙ get_or-map (plan_of w namespace) rules i d no_plan within))

-- what is evaluated of a Route is found in what is kept of it
candidate_is : (controller : List ℕ) (w : World) (door : Door) (s : Stored HttpRoute) → candidate_with door (kept_route_of controller w s) ≡ candidate_of controller w door s
candidate_is controller w door s =
    ap₂ (λ places rules. record { route = s; places = places; rules = rules })
    (flat_map-map (places_at door.gateway) attached_of (entries_of controller w s.object))
    (rules_are w s.object.meta.key.namespace s.object.rules)

-- there is a plan for each rule
pub plan_for_each : (controller : List ℕ) (w : World) (s : Stored HttpRoute) (k : KeptRoute) → k ≡ kept_route_of controller w s → length k.plans ≡ length k.route.object.rules
plan_for_each controller w s k is =
    ap (λ (k : KeptRoute). length k.plans) is ∙ length-map s.object.rules (plan_of w s.object.meta.key.namespace) ∙ sym (ap (λ (k : KeptRoute). length k.route.object.rules) is)

at_entries : (key : Key) (place : ℕ) (entries : List Entry) → list_any (is_at key place) (map attached_of entries) ≡ is_attached key place entries
at_entries key place [] = refl
at_entries key place (e ∷ entries) = ap (λ b. (same_key key (parent_key e.parent) && list_any (nat_eq place) e.attachment.listeners) || b) (at_entries key place entries)

counted : (controller : List ℕ) (w : World) (key : Key) (place : ℕ) (routes : List (Stored HttpRoute)) →
    count_by (is_kept_at key place) (map (kept_route_of controller w) routes) ≡ count_by (λ r. is_attached key place (entries_of controller w r)) (objects_of routes)
counted controller w key place [] = refl
counted controller w key place (s ∷ routes) =
    sum_by-cons (λ k. cond (is_kept_at key place k) 1 0) (kept_route_of controller w s) (map (kept_route_of controller w) routes)
    ∙ ap₂ (λ b n. cond b 1 0 + n) (at_entries key place (entries_of controller w s.object)) (counted controller w key place routes)
    ∙ sym (sum_by-cons (λ r. cond (is_attached key place (entries_of controller w r)) 1 0) s.object (objects_of routes))

-- as many Routes are attached to a listener as what is kept says
pub attached_by_kept : (controller : List ℕ) (w : World) (key : Key) (place : ℕ) (kept : List KeptRoute) →
    kept ≡ kept_routes_of controller w → count_by (is_kept_at key place) kept ≡ attached_at controller w key place
unfolding attached_at
attached_by_kept controller w key place kept are = ap (count_by (is_kept_at key place)) are ∙ counted controller w key place w.routes

-- the rows of a Route, out of what is kept of it, are its rows at the listener
pub rows_of_kept : (controller : List ℕ) (w : World) (door : Door) (l : ServedListener) (s : Stored HttpRoute) →
    kept_rows door l (kept_route_of controller w s) ≡ attached_rows controller w door l s
rows_of_kept controller w door l s = ap (candidate_rows l) (candidate_is controller w door s) ∙ rows_of_route controller w door l s
