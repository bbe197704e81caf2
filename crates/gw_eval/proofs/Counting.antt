-- How the numbers grow with each entry of a Route.
use Rattle.std.proofs.Common.{◌≡◌, ◌∙◌, refl, sym, ap, ℕ, zero, suc, ◌+◌, ◌<◌, ◌≤◌, List, [], ◌∷◌, ◌++◌, Bool, true, false, ◌&&◌, ◌||◌, not, nat_eq, cond, length, map, take, get_or, set, arith, rules}
use Rattle.std.specs.List.{All, AllByRecursion, count_by, list_any}
use Rattle.std.proofs.lemmas.Bool.{eqb-true}
use Rattle.std.proofs.lemmas.Bool.Decides.{eqb_tells}
use Rattle.std.proofs.lemmas.List.{length-map, length-take-le, map-append, take_all, take_more, get_or-set_same, get_or-set_other}
use Rattle.std.proofs.lemmas.List.Elements.{All-weaker, recursion_from_All}
use Rattle.std.proofs.lemmas.List.Folds.{list_any-append}
use Rattle.std.proofs.lemmas.List.Sums.{count_by-le-length, sum_by-append}
use mathlib.Core.Logic.{inl, inr}
use Rattle.gw_text.specs.model.Gateways.{Gateway}
use Rattle.gw_text.specs.model.Routes.{HttpRoute}
use Rattle.gw_text.specs.model.Statuses.{Entry, attached_at, entries_of, is_attached}
use Rattle.gw_text.specs.model.Stored.{Stored, objects_of}
use Rattle.gw_text.specs.model.World.{World, gateway_key}
use Rattle.gw_eval.specs.Counting.{Placed, attaches, entries_in, is_first, more, no_numbers, number_at, AreBelow, AreCounted, AreNumbers, ArePlaced, AreRows, IsPlaced}
use Rattle.gw_eval.proofs.Rows.{no_rows, nothing_at, rows_length}

-- what holds of either, counted in two steps
in_two_steps : (earlier other same here : Bool) (n : ℕ) → (same ≡ true → other ≡ earlier) →
    more (same && (here && not other)) (more earlier n) ≡ more (earlier || (same && here)) n
in_two_steps true other true true n e = rw (e refl) (omega arith)
in_two_steps true other true false n e = omega arith
in_two_steps true other false here n e = omega arith
in_two_steps false other true true n e = rw (e refl) (omega arith)
in_two_steps false other true false n e = omega arith
in_two_steps false other false here n e = omega arith

-- an entry more attaches the Route where it does, or one before it
attaches_more : (earlier : List Placed) (p : Placed) (gateway place : ℕ) →
    attaches (earlier ++ p ∷ []) gateway place ≡ (attaches earlier gateway place || (nat_eq p.gateway gateway && list_any (nat_eq place) p.entry.attachment.listeners))
attaches_more earlier p gateway place = list_any-append (λ p. nat_eq p.gateway gateway && list_any (nat_eq place) p.entry.attachment.listeners) earlier (p ∷ []) ∙ search rules

-- so a Route is counted once
counted : (earlier : List Placed) (p : Placed) (gateway place n : ℕ) →
    more (nat_eq p.gateway gateway && is_first earlier p place) (more (attaches earlier gateway place) n) ≡ more (attaches (earlier ++ p ∷ []) gateway place) n
counted earlier p gateway place n =
    in_two_steps (attaches earlier gateway place) (attaches earlier p.gateway place) (nat_eq p.gateway gateway) (list_any (nat_eq place) p.entry.attachment.listeners) n
    (λ same. ap (λ g. attaches earlier g place) (eqb-true p.gateway gateway same))
    ∙ ap (λ b. more b n) (sym (attaches_more earlier p gateway place))

-- what is placed attaches the Route where its entries do
same_all : (w : World) (placed : List Placed) (gateway place : ℕ) (d : Stored Gateway) → gateway < length w.gateways → AllByRecursion (IsPlaced w) placed →
    attaches placed gateway place ≡ is_attached (gateway_key (get_or w.gateways gateway d).object) place (entries_in placed)
same_all w [] gateway place d within are = refl
same_all w (p ∷ placed) gateway place d within are =
    rw (are.0.place gateway d within, same_all w placed gateway place d within are.1) refl

get_or-map_default : (rows : List (List ℕ)) (i : ℕ) → get_or (map length rows) i 0 ≡ length (get_or rows i [])
get_or-map_default [] i = refl
get_or-map_default (r ∷ rows) zero = refl
get_or-map_default (r ∷ rows) (suc i) = get_or-map_default rows i

one_at_most : (b : Bool) (n bound : ℕ) → n < bound → more b n < bound + 1
one_at_most true n bound small = omega (arith, small)
one_at_most false n bound small = omega (arith, small)

-- rows of the same lengths
pub row_as : (a b : List (List ℕ)) (i : ℕ) → map length a ≡ map length b → length (get_or a i []) ≡ length (get_or b i [])
row_as a b i same = sym (get_or-map_default a i) ∙ ap (λ t. get_or t i 0) same ∙ get_or-map_default b i

-- a row more is counted
pub row_set : (rows : List (List ℕ)) (row : List ℕ) (earlier : List Placed) (e : Placed) → e.gateway < length rows →
    length row ≡ length (get_or rows e.gateway []) →
    ((place : ℕ) → place < length (get_or rows e.gateway []) → get_or row place 0 ≡ more (is_first earlier e place) (get_or (get_or rows e.gateway []) place 0)) →
    (gateway place : ℕ) → place < length (get_or rows gateway []) →
    number_at (set rows e.gateway row) gateway place ≡ more (nat_eq e.gateway gateway && is_first earlier e place) (number_at rows gateway place)
row_set rows row earlier e many same numbers gateway place within = elim (eqb_tells e.gateway gateway) [
  | inl here ↦ rw (here.0, ← here.1, get_or-set_same rows e.gateway row [] many) (numbers place (rw (← here.1) at within))
  | inr other ↦ rw (other.0, get_or-set_other rows e.gateway gateway row [] (λ same. other.1 (sym same))) (omega arith)
]

-- counted once more
pub counted_step : (before rows after : List (List ℕ)) (earlier : List Placed) (e : Placed) →
    AreCounted before earlier rows → map length after ≡ map length rows →
    ((gateway place : ℕ) → place < length (get_or rows gateway []) → number_at after gateway place ≡ more (nat_eq e.gateway gateway && is_first earlier e place) (number_at rows gateway place)) →
    AreCounted before (earlier ++ e ∷ []) after
counted_step before rows after earlier e so same numbers = record {
  lengths = same ∙ so.lengths;
  numbers = λ gateway place within.
      numbers gateway place (rw (row_as rows before gateway so.lengths) within)
      ∙ ap (λ n. more (nat_eq e.gateway gateway && is_first earlier e place) n) (so.numbers gateway place within)
      ∙ counted earlier e gateway place (number_at before gateway place);
}

-- nothing is counted at first
pub counted_nothing : (rows : List (List ℕ)) → AreCounted rows [] rows
counted_nothing rows = record { lengths = refl; numbers = λ gateway place within. omega arith }

-- what is counted stays within its bound
pub below_counted : (bound : ℕ) (before rows : List (List ℕ)) (earlier : List Placed) → AreCounted before earlier rows → AreBelow bound before → AreBelow (bound + 1) rows
below_counted bound before rows earlier so below gateway place g p =
    let many : length rows ≡ length before = sym (length-map rows (length {A = ℕ})) ∙ ap length so.lengths ∙ length-map before (length {A = ℕ}) in
    let within : place < length (get_or before gateway []) = rw (← row_as rows before gateway so.lengths) p in
    let small = below gateway place (rw (← many) g) within in
    rw (so.numbers gateway place within) (one_at_most (attaches earlier gateway place) (number_at before gateway place) bound small)

-- what the entries of a Route count, in the words of the statuses
pub numbers_of_entries : (w : World) (before rows : List (List ℕ)) (placed : List Placed) (es : List Entry) →
    AreCounted before placed rows → ArePlaced w placed → entries_in placed ≡ es →
    (number : Stored Gateway → ℕ → ℕ) → AreNumbers w before number → AreNumbers w rows (λ s place. more (is_attached (gateway_key s.object) place es) (number s place))
numbers_of_entries w before rows placed es so are same number numbers gateway place d within p =
    let here : place < length (get_or before gateway []) = rw (← row_as rows before gateway so.lengths) p in
    so.numbers gateway place here
    ∙ ap (λ b. more b (number_at before gateway place)) (same_all w placed gateway place d within (recursion_from_All (IsPlaced w) placed are) ∙ ap (is_attached (gateway_key (get_or w.gateways gateway d).object) place) same)
    ∙ ap (λ n. more (is_attached (gateway_key (get_or w.gateways gateway d).object) place es) n) (numbers gateway place d within here)

-- the Gateways of the entries have rows
pub within_rows : (w : World) (rows : List (List ℕ)) (placed : List Placed) → AreRows w rows → ArePlaced w placed → All (λ p. p.gateway < length rows) placed
within_rows w rows placed are so = All-weaker (IsPlaced w) (λ p. p.gateway < length rows) (λ p is. rw (rows_length w rows are) is.within) placed so

-- what is made of one item more
pub mapped_step : {X Y : Type 0} (f : X → Y) (new before more : List Y) (done rest all : List X) →
    new ≡ before ++ more → before ≡ map f done → more ≡ map f rest → all ≡ done ++ rest → new ≡ map f all
mapped_step f new before more done rest all is first second total = is ∙ rw (first, second, total) (sym (map-append f done rest))

-- one Route more is counted
zero_plus : (n : ℕ) → 0 + n ≡ n
zero_plus n = omega arith

count_snoc : {X : Type 0} (t : X → Bool) (xs : List X) (x : X) → count_by t (xs ++ x ∷ []) ≡ more (t x) (count_by t xs)
count_snoc t xs x = sum_by-append (λ y. cond (t y) 1 0) xs (x ∷ []) ∙ ap (λ n. count_by t xs + n) (zero_plus (cond (t x) 1 0))

pub objects_more : {X : Type 0} (xs : List (Stored X)) (i : ℕ) (x : Stored X) → i < length xs → x ≡ get_or xs i x →
    objects_of (take (i + 1) xs) ≡ objects_of (take i xs) ++ x.object ∷ []
objects_more xs i x within is = rw (take_more xs i x within, ← is) (map-append (λ (s : Stored _). s.object) (take i xs) (x ∷ []))

pub count_more : {X : Type 0} (t : X → Bool) (xs : List (Stored X)) (i : ℕ) (x : Stored X) → i < length xs → x ≡ get_or xs i x →
    more (t x.object) (count_by t (objects_of (take i xs))) ≡ count_by t (objects_of (take (i + 1) xs))
count_more t xs i x within is =
    sym (count_snoc t (objects_of (take i xs)) x.object)
    ∙ ap (count_by t) (sym (objects_more xs i x within is))

-- so many Routes are counted at most
pub count_at_most : {X : Type 0} (t : X → Bool) (xs : List (Stored X)) (i : ℕ) → i ≤ length xs → count_by t (objects_of (take i xs)) ≤ i
count_at_most t xs i within =
    let few = count_by-le-length t (objects_of (take i xs)) in
    let many = length-map (take i xs) (λ (s : Stored _). s.object) in
    let most = length-take-le i xs within in
    omega (arith, few, many, most)

some_of : (gateways : List (Stored Gateway)) (i : ℕ) → i < length gateways → Stored Gateway
some_of [] i within = absurd (omega arith)
some_of (s ∷ gateways) i within = s

pub below_numbers : (bound : ℕ) (w : World) (rows : List (List ℕ)) (number : Stored Gateway → ℕ → ℕ) →
    AreRows w rows → AreNumbers w rows number → ((s : Stored Gateway) (place : ℕ) → number s place < bound) → AreBelow bound rows
below_numbers bound w rows number are numbers small gateway place many here =
    let within : gateway < length w.gateways = rw (← rows_length w rows are) many in
    let d = some_of w.gateways gateway within in
    rw (numbers gateway place d within here) (small (get_or w.gateways gateway d) place)

-- The numbers are those of these Routes.
pub record AreOfRoutes (controller : List ℕ) (w : World) (routes : List (Stored HttpRoute)) (counts : List (List ℕ)) : Type 0 where
  pub rows : AreRows w counts
  pub numbers : AreNumbers w counts (λ s place. count_by (λ r. is_attached (gateway_key s.object) place (entries_of controller w r)) (objects_of routes))

-- nothing is counted at first
pub of_no_routes : (controller : List ℕ) (w : World) (rows : List (List ℕ)) → rows ≡ no_numbers w.gateways → AreOfRoutes controller w [] rows
of_no_routes controller w rows none = record {
  rows = rw none (no_rows w);
  numbers = λ gateway place d within here. rw none (nothing_at w.gateways gateway place (rw none at here));
}

le_lt : {a b c : ℕ} → a ≤ b → b < c → a < c
le_lt most few = omega (arith, most, few)

-- there is room to count one Route more
pub room_for_more : (controller : List ℕ) (w : World) (i : ℕ) (rows : List (List ℕ)) (bound : ℕ) → i ≤ length w.routes → i < bound →
    AreOfRoutes controller w (take i w.routes) rows → AreBelow bound rows
room_for_more controller w i rows bound within few so =
    below_numbers bound w rows (λ s place. count_by (λ r. is_attached (gateway_key s.object) place (entries_of controller w r)) (objects_of (take i w.routes))) so.rows so.numbers
    (λ s place. le_lt (count_at_most (λ r. is_attached (gateway_key s.object) place (entries_of controller w r)) w.routes i within) few)

-- one Route more is counted
pub of_one_more : (controller : List ℕ) (w : World) (i : ℕ) (route : Stored HttpRoute) (before after : List (List ℕ)) → i < length w.routes → route ≡ get_or w.routes i route →
    AreOfRoutes controller w (take i w.routes) before → AreRows w after →
    ((number : Stored Gateway → ℕ → ℕ) → AreNumbers w before number →
    AreNumbers w after (λ s place. more (is_attached (gateway_key s.object) place (entries_of controller w route.object)) (number s place))) →
    AreOfRoutes controller w (take (i + 1) w.routes) after
of_one_more controller w i route before after within here so rows counted = record {
  rows = rows;
  numbers = λ gateway place d known place_known.
      counted (λ s place. count_by (λ r. is_attached (gateway_key s.object) place (entries_of controller w r)) (objects_of (take i w.routes))) so.numbers gateway place d known place_known
      ∙ count_more (λ r. is_attached (gateway_key (get_or w.gateways gateway d).object) place (entries_of controller w r)) w.routes i route within here;
}

-- all Routes are counted
pub of_all_routes : (controller : List ℕ) (w : World) (i : ℕ) (rows : List (List ℕ)) → length w.routes ≤ i → AreOfRoutes controller w (take i w.routes) rows →
    AreNumbers w rows (λ s place. attached_at controller w (gateway_key s.object) place)
unfolding attached_at
of_all_routes controller w i rows all so =
    let whole : take i w.routes ≡ w.routes = take_all i w.routes all in
    rw whole at so.numbers
