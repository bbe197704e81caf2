-- The rows that are made of Routes evaluated once are the rows of the door.
use Rattle.std.proofs.Common.{◌≡◌, ◌∙◌, refl, sym, ap, ℕ, List, [], ◌∷◌, ◌++◌, Bool, true, false, ◌&&◌, ◌||◌, not, nat_eq, ◌==◌, ◌<◌, get_or, length, map, arith}
use Rattle.std.specs.Prelude.{filter, flat_map, if◌then◌else◌}
use Rattle.std.specs.List.{enumerate_from, list_any}
use Rattle.std.proofs.lemmas.Bool.Decides.{nat_tests}
use Rattle.std.proofs.lemmas.List.{get_or_default}
use Rattle.std.proofs.lemmas.List.Folds.{flat_map-map, list_any-append}
use Rattle.gw_text.specs.model.Doors.{Door}
use Rattle.gw_text.specs.model.Names.{Key, same_key}
use Rattle.gw_text.specs.model.Routes.{HttpRoute, parent_key}
use Rattle.gw_text.specs.model.Statuses.{Entry, entries_of, is_attached}
use Rattle.gw_text.specs.model.Stored.{Stored}
use Rattle.gw_text.specs.model.World.{World}
use Rattle.gw_rows.specs.model.Rows.{Row, Rows, ServedListener}
use Rattle.gw_eval.specs.Candidates.{Candidate, PlannedRule, candidate_of, candidate_rows, candidates_of, has_places, places_in, places_of, planned_hostname_rows, planned_rows, planned_rule}
use Rattle.gw_rows.specs.model.DoorRows.{RouteHostname, hostname_rows, hostnames_for, listener_rows, route_rows, rows_of, served_at}

any_where : (place : ℕ) (here : Bool) (places : List ℕ) → list_any (nat_eq place) (if here then places else []) ≡ (here && list_any (nat_eq place) places)
any_where place true places = refl
any_where place false places = refl

-- some entry attaches the Route to a listener whose place is among those of the entries
attached_at_places : (key : Key) (place : ℕ) (entries : List Entry) → list_any (nat_eq place) (places_in key entries) ≡ is_attached key place entries
attached_at_places key place [] = refl
attached_at_places key place (e ∷ entries) =
    list_any-append (nat_eq place) (places_of key e) (places_in key entries)
    ∙ ap (λ b. b || list_any (nat_eq place) (places_in key entries)) (any_where place (same_key key (parent_key e.parent)) e.attachment.listeners)
    ∙ ap (λ b. (same_key key (parent_key e.parent) && list_any (nat_eq place) e.attachment.listeners) || b) (attached_at_places key place entries)

flat_map_alike : {X Y : Type 0} (f g : X → List Y) (xs : List X) → ((x : X) → f x ≡ g x) → flat_map f xs ≡ flat_map g xs
flat_map_alike f g [] alike = refl
flat_map_alike f g (x ∷ xs) alike = ap (λ t. t ++ flat_map f xs) (alike x) ∙ ap (λ t. g x ++ t) (flat_map_alike f g xs alike)

-- the rules of a Route with what they do have its rows
rows_of_rules : (controller : List ℕ) (w : World) (door : Door) (l : ServedListener) (s : Stored HttpRoute) (h : RouteHostname) →
    planned_hostname_rows l (candidate_of controller w door s) h ≡ hostname_rows w l s h
rows_of_rules controller w door l s h = flat_map-map (planned_rows l s h) (planned_rule w s.object.meta.key.namespace) (enumerate_from 0 s.object.rules)

-- a Route that is evaluated has its rows at a listener
pub rows_of_route : (controller : List ℕ) (w : World) (door : Door) (l : ServedListener) (s : Stored HttpRoute) →
    candidate_rows l (candidate_of controller w door s)
    ≡ (if is_attached door.gateway l.number (entries_of controller w s.object) then route_rows w l s else [])
rows_of_route controller w door l s =
    ap (λ b. if b then flat_map (planned_hostname_rows l (candidate_of controller w door s)) (hostnames_for l.hostname s.object.hostnames) else [])
    (attached_at_places door.gateway l.number (entries_of controller w s.object))
    ∙ ap (λ rows. if is_attached door.gateway l.number (entries_of controller w s.object) then rows else [])
    (flat_map_alike (planned_hostname_rows l (candidate_of controller w door s)) (hostname_rows w l s) (hostnames_for l.hostname s.object.hostnames) (rows_of_rules controller w door l s))

-- what the first of some items gives, if it is among them
filtered : {X Y : Type 0} (f : X → List Y) (p : X → Bool) (x : X) (xs : List X) (b : Bool) → p x ≡ b →
    flat_map f (filter p (x ∷ xs)) ≡ (if b then f x else []) ++ flat_map f (filter p xs)
filtered f p x xs true is = rw is refl
filtered f p x xs false is = rw is refl

some_place : (place : ℕ) (places : List ℕ) → not (length (place ∷ places) == 0) ≡ true
some_place place places = grind (arith, nat_tests)

-- a Route that isn't attached to the Gateway has no rows
none_without_places : (l : ServedListener) (s : Stored HttpRoute) (rules : List PlannedRule) (places : List ℕ) →
    (if has_places (record { route = s; places = places; rules = rules }) then candidate_rows l (record { route = s; places = places; rules = rules }) else [])
    ≡ candidate_rows l (record { route = s; places = places; rules = rules })
none_without_places l s rules [] = refl
none_without_places l s rules (place ∷ places) =
    ap (λ b. if b then candidate_rows l (record { route = s; places = place ∷ places; rules = rules }) else []) (some_place place places)

rows_of_routes : (controller : List ℕ) (w : World) (door : Door) (l : ServedListener) (routes : List (Stored HttpRoute)) →
    flat_map (candidate_rows l) (filter has_places (map (candidate_of controller w door) routes))
    ≡ flat_map (route_rows w l) (filter (λ s. is_attached door.gateway l.number (entries_of controller w s.object)) routes)
rows_of_routes controller w door l [] = refl
rows_of_routes controller w door l (s ∷ routes) =
    let c = candidate_of controller w door s in
    let others = map (candidate_of controller w door) routes in
    let attached = λ (r : Stored HttpRoute). is_attached door.gateway l.number (entries_of controller w r.object) in
    filtered (candidate_rows l) has_places c others (has_places c) refl
    ∙ ap (λ rows. rows ++ flat_map (candidate_rows l) (filter has_places others)) (none_without_places l s c.rules c.places ∙ rows_of_route controller w door l s)
    ∙ ap (λ rows. (if attached s then route_rows w l s else []) ++ rows) (rows_of_routes controller w door l routes)
    ∙ sym (filtered (route_rows w l) attached s routes (attached s) refl)

-- the rows of listeners
pub rows_by_candidates : (controller : List ℕ) (w : World) (door : Door) (candidates : List Candidate) (listeners : List ServedListener) →
    candidates ≡ candidates_of controller w door →
    flat_map (λ l. flat_map (candidate_rows l) candidates) listeners ≡ flat_map (listener_rows controller w door) listeners
unfolding candidates_of
rows_by_candidates controller w door candidates listeners are =
    flat_map_alike (λ l. flat_map (candidate_rows l) candidates) (listener_rows controller w door) listeners
    (λ l. ap (flat_map (candidate_rows l)) are ∙ rows_of_routes controller w door l w.routes)

abbrev these : List ServedListener → List Row → Rows
these listeners rows = record { listeners = listeners; rows = rows }

-- what is found is what the door has
pub rows_found : (doors : List Door) (controller : List ℕ) (w : World) (number : ℕ) (door d : Door) (found : Rows)
    (listeners : List ServedListener) (candidates : List Candidate) (rows : List Row) →
    number < length doors → door ≡ get_or doors number door → listeners ≡ served_at doors controller w door → candidates ≡ candidates_of controller w door →
    rows ≡ flat_map (λ l. flat_map (candidate_rows l) candidates) listeners → found ≡ record { listeners = listeners; rows = rows } →
    found ≡ rows_of doors controller w (get_or doors number d)
unfolding rows_of
rows_found doors controller w number door d found listeners candidates rows within here served are made is =
    let there : get_or doors number d ≡ door = get_or_default doors number d door within ∙ sym here in
    is
    ∙ ap (these listeners) (made ∙ rows_by_candidates controller w door candidates listeners are)
    ∙ ap (λ all. these all (flat_map (listener_rows controller w door) all)) served
    ∙ ap (λ at. these (served_at doors controller w at) (flat_map (listener_rows controller w at) (served_at doors controller w at))) (sym there)
