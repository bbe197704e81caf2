-- Served listeners of one door aren't in conflict, so they differ in hostname.
use Rattle.std.proofs.Common.{◌≡◌, ◌≢◌, ℕ, ◌+◌, ◌<◌, ◌≤◌, Bool, true, false, not, cond, ◌&&◌, ◌||◌, ◌==◌, if◌then◌else◌, inl, inr, List, [], ◌∷◌, filter, map, refl, sym, ap, subst, ◌∙◌, arith, suc, zero, Option, Some, None, true≢false}
use Rattle.std.proofs.lemmas.Bool.{and_from, and_parts, cases_lt, eq-eqb, eqb-true, ne_eqb}
use Rattle.std.proofs.lemmas.List.Elements.{All-cons, All-get_or, All-contains, All-contains_itself, All-filter, All-nil, filter_passes}
use Rattle.std.proofs.lemmas.Option.{get_or_from_slice_get, slice_get_within}
use Rattle.std.specs.Prelude.{All, Contains}
use Rattle.std.specs.List.{enumerate_from, list_any, slice_get}
use Rattle.std.specs.Option.{option_map_or}
use Rattle.gw_row_laws.proofs.Tables.{in_tables}
use Rattle.gw_row_laws.specs.Listening.{HaveDifferentHostnames}
use Rattle.gw_row_laws.specs.Tabled.{rows_after}
use Rattle.gw_rows.specs.model.DoorRows.{is_served, managed_at, rows_of, served_at, served_by, served_listener}
use Rattle.gw_rows.specs.model.Rows.{Rows, ServedListener}
use Rattle.gw_store.specs.declared.event.Entry.{Entry}
use Rattle.gw_text.specs.model.Conditions.{Condition}
use Rattle.gw_text.specs.model.Doors.{Door}
use Rattle.gw_text.specs.model.Gateways.{Gateway, Listener}
use Rattle.gw_text.specs.model.Hostnames.{same_hostname}
use Rattle.gw_text.specs.model.Listeners.{conflicted_of, gateway_state, has_address_fault, have_hostname_conflict, have_protocol_conflict, is_http, listener_accepted_of, listener_programmed_of, listener_state, some_other, supports_http_route}
use Rattle.gw_text.specs.model.World.{World}

-- what the test says where a condition is chosen by it
true_then : (t : Bool) (a b : Condition) → b.truth ≡ false → (if t then a else b).truth ≡ true → t ≡ true
true_then true a b f e = refl
true_then false a b f e = absurd (true≢false (sym e ∙ f))

true_else : (t : Bool) (a b : Condition) → a.truth ≡ false → (if t then a else b).truth ≡ true → (t ≡ false) × (b.truth ≡ true)
true_else true a b f e = absurd (true≢false (sym e ∙ f))
true_else false a b f e = (refl, e)

false_else : (t : Bool) (a b : Condition) → a.truth ≡ true → (if t then a else b).truth ≡ false → (t ≡ false) × (b.truth ≡ false)
false_else true a b f e = absurd (true≢false (sym f ∙ e))
false_else false a b f e = (refl, e)

not_not : (b : Bool) → not b ≡ false → b ≡ true
not_not true e = refl
not_not false e = absurd (true≢false e)

-- a listener that isn't conflicted has no other of its port and hostname
no_conflict : (g : Gateway) (place : ℕ) (l : Listener) → (conflicted_of g place l).truth ≡ false → some_other have_hostname_conflict place l g.listeners ≡ false
unfolding conflicted_of
no_conflict g place l e =
    (false_else (some_other have_hostname_conflict place l g.listeners) _ _ refl (false_else (some_other have_protocol_conflict place l g.listeners) _ _ refl e).1).0

accepted : (doors : List Door) (g : Gateway) (place : ℕ) (l : Listener) → (listener_accepted_of doors g place l).truth ≡ true
    → (is_http l ≡ true) × (some_other have_hostname_conflict place l g.listeners ≡ false)
unfolding listener_accepted_of
accepted doors g place l e =
    let first = true_else (conflicted_of g place l).truth _ _ refl e in
    let second = true_else (not (is_http l)) _ _ refl first.1 in
    (not_not (is_http l) second.0, no_conflict g place l first.0)

programmed : (doors : List Door) (g : Gateway) (place : ℕ) (l : Listener) → (listener_state doors g place l).programmed.truth ≡ true
    → (is_http l ≡ true) × (some_other have_hostname_conflict place l g.listeners ≡ false)
unfolding listener_state listener_programmed_of
programmed doors g place l e =
    let all = true_then ((listener_accepted_of doors g place l).truth && supports_http_route l && not (has_address_fault doors g)) _ _ refl e in
    let supported = and_parts ((listener_accepted_of doors g place l).truth && supports_http_route l) (not (has_address_fault doors g)) all in
    accepted doors g place l (and_parts (listener_accepted_of doors g place l).truth (supports_http_route l) supported.0).0

-- what a served listener at its place keeps
record Served (door : Door) (g : Gateway) (p : ℕ × Listener) : Type 0 where
  port : p.1.port ≡ door.port
  http : is_http p.1 ≡ true
  alone : some_other have_hostname_conflict p.0 p.1 g.listeners ≡ false

served : (doors : List Door) (door : Door) (g : Gateway) (p : ℕ × Listener) → is_served doors door g p.0 p.1 ≡ true → Served door g p
served doors door g p e =
    let states = and_parts ((p.1.port == door.port) && (gateway_state doors g).programmed.truth) (listener_state doors g p.0 p.1).programmed.truth e in
    let ports = and_parts (p.1.port == door.port) (gateway_state doors g).programmed.truth states.0 in
    let state = programmed doors g p.0 p.1 states.1 in
    record { port = eqb-true p.1.port door.port ports.0; http = state.0; alone = state.1 }

-- numbers that rise
abbrev Rise : {X : Type 0} → ℕ → List (ℕ × X) → Type 0
Rise n [] = Unit {0}
Rise n (p ∷ ps) = (n ≤ p.0) × Rise (p.0 + 1) ps

rise_from : {X : Type 0} (m n : ℕ) (ps : List (ℕ × X)) → m ≤ n → Rise n ps → Rise m ps
rise_from m n [] below r = tt
rise_from m n (p ∷ ps) below r = (omega (arith, below, r.0), r.1)

places_rise : {X : Type 0} (n : ℕ) (xs : List X) → Rise n (enumerate_from n xs)
places_rise n [] = tt
places_rise n (x ∷ xs) = (omega arith, places_rise (n + 1) xs)

kept_if : {X : Type 0} (test : Bool) (n : ℕ) (p : ℕ × X) (ps : List (ℕ × X)) → n ≤ p.0 → Rise (p.0 + 1) ps → Rise n (cond test (p ∷ ps) ps)
kept_if true n p ps low r = (low, r)
kept_if false n p ps low r = rise_from n (p.0 + 1) ps (omega (arith, low)) r

kept_rise : {X : Type 0} (test : ℕ × X → Bool) (n : ℕ) (ps : List (ℕ × X)) → Rise n ps → Rise n (filter test ps)
kept_rise test n [] r = tt
kept_rise test n (p ∷ ps) r = kept_if (test p) n p (filter test ps) r.0 (kept_rise test (p.0 + 1) ps r.1)

not_below : {X : Type 0} (n : ℕ) (ps : List (ℕ × X)) (i : ℕ) (p : ℕ × X) → Rise n ps → slice_get ps i ≡ Some p → n ≤ p.0
not_below n [] i p r e = absurd (cc)
not_below n (q ∷ ps) zero p r e = let same : q ≡ p = cc in subst (λ (x : ℕ × _). n ≤ x.0) same r.0
not_below n (q ∷ ps) (suc i) p r e = let later : q.0 + 1 ≤ p.0 = not_below (q.0 + 1) ps i p r.1 e in omega (arith, later, r.0)

less : {X : Type 0} (n : ℕ) (ps : List (ℕ × X)) (i j : ℕ) (p q : ℕ × X) → Rise n ps → i < j → slice_get ps i ≡ Some p → slice_get ps j ≡ Some q → p.0 < q.0
less n [] i j p q r lt e f = absurd (cc)
less n (x ∷ ps) i zero p q r lt e f = absurd (omega (arith, lt))
less n (x ∷ ps) zero (suc j) p q r lt e f =
    let same : x ≡ p = cc in
    let later : x.0 + 1 ≤ q.0 = not_below (x.0 + 1) ps j q r.1 f in
    subst (λ (y : ℕ × _). y.0 < q.0) same (omega (arith, later))
less n (x ∷ ps) (suc i) (suc j) p q r lt e f = less (x.0 + 1) ps i j p q r.1 (omega (arith, lt)) e f

others : {X : Type 0} (n : ℕ) (ps : List (ℕ × X)) (i j : ℕ) (p q : ℕ × X) → Rise n ps → i ≢ j → slice_get ps i ≡ Some p → slice_get ps j ≡ Some q → p.0 ≢ q.0
others n ps i j p q r apart e f same =
    elim (cases_lt i j) [
      | inl lt ↦ (let rises : p.0 < q.0 = less n ps i j p q r lt e f in omega (arith, rises, same))
      | inr ge ↦ (
          let lt : j < i = omega (arith, ge, apart) in
          let rises : q.0 < p.0 = less n ps j i q p r lt f e in
          omega (arith, rises, same))
    ]

neither : (a b : Bool) → (a || b) ≡ false → (a ≡ false) × (b ≡ false)
neither true b e = absurd (true≢false e)
neither false b e = (refl, e)

-- none of the items passes
none_passes : {X : Type 0} (test : X → Bool) (xs : List X) → list_any test xs ≡ false → All (λ x. test x ≡ false) xs
none_passes test [] e = All-nil (λ x. test x ≡ false)
none_passes test (x ∷ xs) e =
    let parts = neither (test x) (list_any test xs) e in
    All-cons (λ y. test y ≡ false) x xs parts.0 (none_passes test xs parts.1)

and_rest : (a b : Bool) → a ≡ true → (a && b) ≡ false → b ≡ false
and_rest true b e f = f
and_rest false b e f = absurd (true≢false (sym e))

item : {X : Type 0} (P : X → Type 0) (xs : List X) (i : ℕ) (x : X) → All P xs → slice_get xs i ≡ Some x → P x
item P xs i x all e = subst P (get_or_from_slice_get xs i x x e) (All-get_or P xs i x (slice_get_within xs i x e) all)

-- two that are served at different places
two_served : (door : Door) (g : Gateway) (p q : ℕ × Listener) → Served door g p → Served door g q → p.0 ≢ q.0 → Contains (enumerate_from 0 g.listeners) q
    → same_hostname p.1.hostname q.1.hostname ≡ false
two_served door g p q one two apart held =
    let test : ℕ × Listener → Bool = λ o. not (o.0 == p.0) && have_hostname_conflict p.1 o.1 in
    let fails : test q ≡ false = All-contains (λ o. test o ≡ false) (enumerate_from 0 g.listeners) q (none_passes test (enumerate_from 0 g.listeners) one.alone) held in
    let elsewhere : not (q.0 == p.0) ≡ true = ap not (ne_eqb q.0 p.0 (λ e. apart (sym e))) in
    let conflict : have_hostname_conflict p.1 q.1 ≡ false = and_rest (not (q.0 == p.0)) (have_hostname_conflict p.1 q.1) elsewhere fails in
    let port : (p.1.port == q.1.port) ≡ true = eq-eqb p.1.port q.1.port (one.port ∙ sym two.port) in
    and_rest ((p.1.port == q.1.port) && is_http p.1 && is_http q.1) (same_hostname p.1.hostname q.1.hostname)
    (and_from ((p.1.port == q.1.port) && is_http p.1) (is_http q.1) (and_from (p.1.port == q.1.port) (is_http p.1) port one.http) two.http) conflict

in_gateway : (doors : List Door) (door : Door) (g : Gateway) → HaveDifferentHostnames (served_by doors door g)
unfolding served_by
in_gateway doors door g i j a b apart e f =
    let test : ℕ × Listener → Bool = λ p. is_served doors door g p.0 p.1 in
    let all = enumerate_from 0 g.listeners in
    let kept = filter test all in
    let first = there kept i a e in
    let second = there kept j b f in
    let passes = filter_passes test all in
    let held = All-filter test (Contains all) all (All-contains_itself all) in
    let numbers = others 0 kept i j first.0 second.0 (kept_rise test 0 all (places_rise 0 g.listeners)) apart first.1 second.1 in
    let differ = two_served door g first.0 second.0
    (served doors door g first.0 (item (λ p. test p ≡ true) kept i first.0 passes first.1))
    (served doors door g second.0 (item (λ p. test p ≡ true) kept j second.0 passes second.1))
    numbers (item (Contains all) kept j second.0 held second.1) in
    subst (λ (x : ServedListener). same_hostname x.hostname b.hostname ≡ false) first.2
    (subst (λ (y : ServedListener). same_hostname first.0.1.hostname y.hostname ≡ false) second.2 differ)
  where
    there : (kept : List (ℕ × Listener)) (i : ℕ) (a : ServedListener) → slice_get (map (λ p. served_listener p.0 p.1) kept) i ≡ Some a
        → (p : ℕ × Listener) × (slice_get kept i ≡ Some p) × (served_listener p.0 p.1 ≡ a)
    there [] i a e = absurd (cc)
    there (p ∷ kept) zero a e = (p, refl, cc)
    there (p ∷ kept) (suc i) a e = there kept i a e

in_door : (doors : List Door) (controller : List ℕ) (w : World) (door : Door) → HaveDifferentHostnames (rows_of doors controller w door).listeners
unfolding rows_of served_at
in_door doors controller w door = by (managed_at controller w door.gateway)
  where
    by : (g : Option Gateway) → HaveDifferentHostnames (option_map_or (served_by doors door) g [])
    by None = λ i j a b apart e f. absurd (cc)
    by (Some g) = in_gateway doors door g

pub different_hostnames : (doors : List Door) (controller : List ℕ) (changes : List Entry) (door : ℕ)
    → HaveDifferentHostnames (rows_after doors controller changes door).listeners
different_hostnames doors controller changes door =
    in_tables (λ (rows : Rows). HaveDifferentHostnames rows.listeners) doors controller changes door
    (λ i j a b apart e f. absurd (cc)) (in_door doors controller)
