-- Lists that are written down part by part.
use Rattle.std.proofs.Common.{◌≡◌, ◌∙◌, sym, ap, refl, ℕ, zero, suc, ◌+◌, ◌<◌, arith, ℤ, count_by, get_or, List, [], ◌∷◌, ◌++◌, length, map, take, drop, append_assoc, Bool}
use Rattle.std.proofs.lemmas.Grind.{flat_map-append}
use Rattle.std.specs.List.{flat_map}
use Rattle.gw_shared.proofs.Pieces.{piece_and_rest}
use Rattle.gw_text.specs.model.Names.{Key}
use Rattle.gw_text.specs.model.Statuses.{ClassStatus, GatewayStatus, ParentStatus, RouteStatus}
use Rattle.gw_stamp.specs.Names.{CondName}
use Rattle.gw_stamp.specs.Stamping.{Stamps, time_in, times_in}
use Rattle.gw_stamp.specs.Stated.{class_stated, gateway_stated, parent_stated, parents_stated, route_stated, same_parent}

-- With what comes of a piece, that so far lacks what comes of the rest behind it.
pub piece_done : {E A : Type 0} (f : E → List A) (all piece : List E) (at : ℕ) (whole old new : List A) → piece ≡ take (length piece) (drop at all)
    → new ≡ old ++ flat_map f piece → old ++ flat_map f (drop at all) ≡ whole → new ++ flat_map f (drop (at + length piece) all) ≡ whole
piece_done {E} {A} f all piece at whole old new is more before =
    let rest = drop (at + length piece) all in
    ap (λ (t : List A). t ++ flat_map f rest) more
    ∙ append_assoc old (flat_map f piece) (flat_map f rest)
    ∙ ap (λ (t : List A). old ++ t) (sym (flat_map-append f piece rest))
    ∙ ap (λ (s : List E). old ++ flat_map f s) (sym (piece_and_rest all piece at is))
    ∙ before

map_append : {A B : Type 0} (f : A → B) (xs ys : List A) → map f (xs ++ ys) ≡ map f xs ++ map f ys
map_append f [] ys = refl
map_append f (x ∷ xs) ys = ap (λ t. f x ∷ t) (map_append f xs ys)

-- What comes of each part comes of the whole.
pub each_part : {E A B : Type 0} (f : A → B) (parts : E → List A) (xs : List E) → map f (flat_map parts xs) ≡ flat_map (λ x. map f (parts x)) xs
each_part f parts [] = refl
each_part {E} {A} {B} f parts (x ∷ xs) = map_append f (parts x) (flat_map parts xs) ∙ ap (λ (t : List B). map f (parts x) ++ t) (each_part f parts xs)

taken : {X : Type 0} (xs : List X) (i : ℕ) (d : X) → i < length xs → take (suc i) xs ≡ take i xs ++ get_or xs i d ∷ []
taken [] i d within = absurd (omega arith)
taken (x ∷ xs) zero d within = refl
taken (x ∷ xs) (suc i) d within = ap (λ t. x ∷ t) (taken xs i d (omega arith))

dropped : {X : Type 0} (xs : List X) (i : ℕ) (d : X) → i < length xs → drop i xs ≡ get_or xs i d ∷ drop (suc i) xs
dropped [] i d within = absurd (omega arith)
dropped (x ∷ xs) zero d within = refl
dropped (x ∷ xs) (suc i) d within = dropped xs i d (omega arith)

-- With the conditions of one entry more, the conditions so far lack those behind it.
pub parent_done : (key : Key) (all : List ParentStatus) (i j : ℕ) (p : ParentStatus) (number : ℕ) (whole old new : List (CondName × Bool)) → j ≡ suc i → i < length all → p ≡ get_or all i p
    → number ≡ count_by (same_parent p) (take i all) → new ≡ old ++ parent_stated key number p → old ++ parents_stated key (take i all) (drop i all) ≡ whole
    → new ++ parents_stated key (take j all) (drop j all) ≡ whole
parent_done key all i j p number whole old new next within at count more before =
    ap (λ (n : ℕ). new ++ parents_stated key (take n all) (drop n all)) next
    ∙ ap (λ (t : List ParentStatus). new ++ parents_stated key t (drop (suc i) all)) (taken all i p within ∙ ap (λ (q : ParentStatus). take i all ++ q ∷ []) (sym at))
    ∙ ap (λ (t : List (CondName × Bool)). t ++ parents_stated key (take i all ++ p ∷ []) (drop (suc i) all)) (more ∙ ap (λ (n : ℕ). old ++ parent_stated key n p) count)
    ∙ append_assoc old (parent_stated key (count_by (same_parent p) (take i all)) p) (parents_stated key (take i all ++ p ∷ []) (drop (suc i) all))
    ∙ ap (λ (t : List ParentStatus). old ++ parents_stated key (take i all) t) (sym (dropped all i p within ∙ ap (λ (q : ParentStatus). q ∷ drop (suc i) all) (sym at)))
    ∙ before

map_map : {A B C : Type 0} (f : B → C) (g : A → B) (xs : List A) → map f (map g xs) ≡ map (λ x. f (g x)) xs
map_map f g [] = refl
map_map f g (x ∷ xs) = ap (λ t. f (g x) ∷ t) (map_map f g xs)

-- The times of classes, Gateways and Routes are those of all conditions.
pub all_times : (stamps : Stamps) (classes : List ClassStatus) (gateways : List GatewayStatus) (routes : List RouteStatus) (none one two all : List ℤ) → none ≡ []
    → one ≡ none ++ flat_map (λ s. times_in stamps (class_stated s)) classes
    → two ≡ one ++ flat_map (λ s. times_in stamps (gateway_stated s)) gateways
    → all ≡ two ++ flat_map (λ s. times_in stamps (route_stated s)) routes
    → all ≡ map (time_in stamps) (map (λ c. c.0) (flat_map class_stated classes ++ flat_map gateway_stated gateways ++ flat_map route_stated routes))
all_times stamps classes gateways routes none one two all empty first second third =
    let f = λ (c : CondName × Bool). time_in stamps c.0 in
    let a = flat_map class_stated classes in
    let b = flat_map gateway_stated gateways in
    let r = flat_map route_stated routes in
    let parts : map f (a ++ b ++ r) ≡ map f a ++ map f b ++ map f r = map_append f (a ++ b) r ∙ ap (λ (t : List ℤ). t ++ map f r) (map_append f a b) in
    third
    ∙ ap (λ (t : List ℤ). t ++ flat_map (λ s. times_in stamps (route_stated s)) routes)
    (second ∙ ap (λ (t : List ℤ). t ++ flat_map (λ s. times_in stamps (gateway_stated s)) gateways)
    (first ∙ ap (λ (t : List ℤ). t ++ flat_map (λ s. times_in stamps (class_stated s)) classes) empty ∙ sym (each_part f class_stated classes))
    ∙ ap (λ (t : List ℤ). map f a ++ t) (sym (each_part f gateway_stated gateways)))
    ∙ ap (λ (t : List ℤ). map f a ++ map f b ++ t) (sym (each_part f route_stated routes))
    ∙ sym parts
    ∙ sym (map_map (time_in stamps) (λ (c : CondName × Bool). c.0) (a ++ b ++ r))
