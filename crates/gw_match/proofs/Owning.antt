-- Which rows of all are those of one listener.
use Rattle.std.proofs.Common.{◌≡◌, ◌∙◌, refl, sym, ap, subst, ℕ, ◌<◌, arith, Bool, true, false, ◌&&◌, eqb, List, [], ◌∷◌, ◌++◌, filter, map, All, AllPairs, append-nil}
use Rattle.std.proofs.lemmas.Bool.{eqb-true}
use Rattle.std.proofs.lemmas.Bool.Decides.{Decides-eqb}
use Rattle.std.proofs.lemmas.List.Elements.{All-append, All-cons, All-head, All-map, All-nil, All-tail, All-weaker, filter-append, filter_agree, filter_passes}
use Rattle.std.proofs.lemmas.List.Kept.{AllPairs-cons, AllPairs-from_increasing}
use Rattle.std.proofs.lemmas.Simd.{map-map}
use Rattle.std.specs.List.{flat_map}
use Rattle.std.specs.List.Sorted.{IsStrictlyIncreasing}
use Rattle.gw_match.proofs.Pairs.{all_both, all_of, pairs_head, pairs_none, pairs_tail}
use Rattle.gw_match.specs.model.Listed.{AreApart, AreOfOneDoor, AreOwnRows, AreRowsOf, AreRowsOfDoor, Listed, in_one, is_row_of, rows_in, rows_with}
use Rattle.gw_rows.specs.model.Rows.{Row, Rows, ServedListener}

module _ {X : Type 0} (p : X → Bool) where
  filter_none : (xs : List X) → All (λ x. p x ≡ false) xs → filter p xs ≡ []
  filter_none [] none = refl
  filter_none (x ∷ xs) none = rw (All-head (λ x. p x ≡ false) x xs none) (filter_none xs (All-tail (λ x. p x ≡ false) x xs none))

  filter_alike : (q : X → Bool) (xs : List X) → All (λ x. p x ≡ q x) xs → filter p xs ≡ filter q xs
  filter_alike q [] same = refl
  filter_alike q (x ∷ xs) same = by (q x) refl (filter_alike q xs (All-tail (λ x. p x ≡ q x) x xs same))
    where
      by : (b : Bool) → q x ≡ b → filter p xs ≡ filter q xs → filter p (x ∷ xs) ≡ filter q (x ∷ xs)
      by true e rest = rw (All-head (λ x. p x ≡ q x) x xs same ∙ e, e) (ap (λ (l : List X). x ∷ l) rest)
      by false e rest = rw (All-head (λ x. p x ≡ q x) x xs same ∙ e, e) rest

  filter_all : (xs : List X) → All (λ x. p x ≡ true) xs → filter p xs ≡ xs
  filter_all [] all = refl
  filter_all (x ∷ xs) all = rw (All-head (λ x. p x ≡ true) x xs all) (ap (λ (l : List X). x ∷ l) (filter_all xs (All-tail (λ x. p x ≡ true) x xs all)))

pub flat_alike : {X Y : Type 0} (f g : X → List Y) (xs : List X) → All (λ x. f x ≡ g x) xs → flat_map f xs ≡ flat_map g xs
flat_alike f g [] same = refl
flat_alike {X} {Y} f g (x ∷ xs) same =
    ap (λ (l : List Y). l ++ flat_map f xs) (All-head (λ x. f x ≡ g x) x xs same)
    ∙ ap (λ (l : List Y). g x ++ l) (flat_alike f g xs (All-tail (λ x. f x ≡ g x) x xs same))

same_number : (a b : ℕ) → a ≡ b → eqb a b ≡ true
same_number a b = (Decides-eqb a b).1

other_number : (a b c : ℕ) → a ≡ b → (b ≡ c → ⊥) → eqb a c ≡ false
other_number a b c is apart = by (eqb a c) refl
  where
    by : (t : Bool) → eqb a c ≡ t → eqb a c ≡ false
    by true e = absurd (apart (sym is ∙ eqb-true a c e))
    by false e = e

-- Things that have a number and rows, as listeners do.
module _ {T : Type 0} (number : T → ℕ) (rows : T → List Row) where
  abbrev pub IsOwner : T → Type 0
  IsOwner t = All (λ r. r.listener ≡ number t) (rows t)

  -- The row is one of this number, and passes.
  abbrev pub passes_at : (Row → Bool) → ℕ → Row → Bool
  passes_at test n r = eqb r.listener n && test r

  own_alone : (test : Row → Bool) (t : T) → IsOwner t → filter (passes_at test (number t)) (rows t) ≡ filter test (rows t)
  own_alone test t own =
      filter_alike (passes_at test (number t)) test (rows t)
      (All-weaker (λ r. r.listener ≡ number t) (λ r. passes_at test (number t) r ≡ test r)
      (λ r is. ap (λ (b : Bool). b && test r) (same_number r.listener (number t) is)) (rows t) own)

  none_of_other : (test : Row → Bool) (n : ℕ) (t : T) → (number t ≡ n → ⊥) → IsOwner t → filter (passes_at test n) (rows t) ≡ []
  none_of_other test n t apart own =
      filter_none (passes_at test n) (rows t)
      (All-weaker (λ r. r.listener ≡ number t) (λ r. passes_at test n r ≡ false)
      (λ r is. ap (λ (b : Bool). b && test r) (other_number r.listener (number t) n is apart)) (rows t) own)

  none_of_others : (test : Row → Bool) (n : ℕ) (ts : List T) → All (λ t. number t ≡ n → ⊥) ts → All IsOwner ts
      → filter (passes_at test n) (flat_map rows ts) ≡ []
  none_of_others test n [] apart own = refl
  none_of_others test n (t ∷ ts) apart own =
      filter-append (passes_at test n) (rows t) (flat_map rows ts)
      ∙ ap (λ (l : List Row). l ++ filter (passes_at test n) (flat_map rows ts))
      (none_of_other test n t (All-head (λ t. number t ≡ n → ⊥) t ts apart) (All-head IsOwner t ts own))
      ∙ none_of_others test n ts (All-tail (λ t. number t ≡ n → ⊥) t ts apart) (All-tail IsOwner t ts own)

  -- Of all rows, those that are of its number and pass are those of its own that pass.
  abbrev pub HasItsPart : (Row → Bool) → List Row → T → Type 0
  HasItsPart test all t = filter (passes_at test (number t)) all ≡ filter test (rows t)

  pub own_parts : (test : Row → Bool) (ts : List T) → AllPairs (λ t u. number t < number u) ts → All IsOwner ts
      → All (HasItsPart test (flat_map rows ts)) ts
  own_parts test [] less own = All-nil (HasItsPart test [])
  own_parts test (t ∷ ts) less own =
      All-cons (HasItsPart test (flat_map rows (t ∷ ts))) t ts first
      (all_both (λ u. number t < number u) (HasItsPart test (flat_map rows ts)) (HasItsPart test (flat_map rows (t ∷ ts))) others ts after
      (own_parts test ts (pairs_tail (λ t u. number t < number u) t ts less) (All-tail IsOwner t ts own)))
    where
      after : All (λ u. number t < number u) ts
      after = pairs_head (λ t u. number t < number u) t ts less

      mine : IsOwner t
      mine = All-head IsOwner t ts own

      first : HasItsPart test (flat_map rows (t ∷ ts)) t
      first =
          filter-append (passes_at test (number t)) (rows t) (flat_map rows ts)
          ∙ ap (λ (l : List Row). filter (passes_at test (number t)) (rows t) ++ l)
          (none_of_others test (number t) ts (All-weaker (λ u. number t < number u) (λ u. number u ≡ number t → ⊥) (λ u more same. omega arith) ts after) (All-tail IsOwner t ts own))
          ∙ append-nil (filter (passes_at test (number t)) (rows t))
          ∙ own_alone test t mine

      others : (u : T) → number t < number u → HasItsPart test (flat_map rows ts) u → HasItsPart test (flat_map rows (t ∷ ts)) u
      others u more part =
          filter-append (passes_at test (number u)) (rows t) (flat_map rows ts)
          ∙ ap (λ (l : List Row). l ++ filter (passes_at test (number u)) (flat_map rows ts)) (none_of_other test (number u) t (λ same. omega arith) mine)
          ∙ part

  and_true : (b : Bool) → b && true ≡ b
  and_true true = refl
  and_true false = refl

  every : Row → Bool
  every r = true

  -- All rows are those of each number, one after another.
  pub parts_of_all : (ts : List T) → AllPairs (λ t u. number t < number u) ts → All IsOwner ts
      → All (λ t. filter (λ r. eqb r.listener (number t)) (flat_map rows ts) ≡ rows t) ts
  unfolding every
  parts_of_all ts less own =
      All-weaker (HasItsPart every (flat_map rows ts)) (λ t. filter (λ r. eqb r.listener (number t)) (flat_map rows ts) ≡ rows t)
      (λ t part. filter_agree (λ r. eqb r.listener (number t)) (passes_at every (number t)) (λ r. sym (and_true (eqb r.listener (number t)))) (flat_map rows ts)
      ∙ (part ∙ filter_all every (rows t) (all_of (λ r. every r ≡ true) (λ r. refl) (rows t)))) ts (own_parts every ts less own)

-- The numbers of things increase.
pub in_turn : {T : Type 0} (number : T → ℕ) (ts : List T) → IsStrictlyIncreasing (map number ts) → AllPairs (λ t u. number t < number u) ts
in_turn number ts up = of_map number ts (AllPairs-from_increasing (map number ts) up)
  where
    of_map : {T : Type 0} (number : T → ℕ) (ts : List T) → AllPairs (λ a b. a < b) (map number ts) → AllPairs (λ t u. number t < number u) ts
    of_map number [] pairs = pairs_none (λ t u. number t < number u)
    of_map {T} number (t ∷ ts) pairs =
        AllPairs-cons (λ (x y : T). number x < number y) t ts (of_all (number t) number ts (pairs_head (λ a b. a < b) (number t) (map number ts) pairs))
        (of_map number ts (pairs_tail (λ a b. a < b) (number t) (map number ts) pairs))
      where
        of_all : {T : Type 0} (n : ℕ) (number : T → ℕ) (ts : List T) → All (λ m. n < m) (map number ts) → All (λ t. n < number t) ts
        of_all n number [] all = All-nil (λ t. n < number t)
        of_all {T} n number (t ∷ ts) all =
            All-cons (λ (x : T). n < number x) t ts (All-head (λ m. n < m) (number t) (map number ts) all)
            (of_all n number ts (All-tail (λ m. n < m) (number t) (map number ts) all))

module _ (rows : List Row) where
  own_of_one : (l : ServedListener) → AreOwnRows l (rows_in (in_one rows l).routes)
  own_of_one l =
      All-append (λ r. r.listener ≡ l.number) (filter (is_row_of l) rows) []
      (All-weaker (λ r. is_row_of l r ≡ true) (λ r. r.listener ≡ l.number) (λ r e. eqb-true r.listener l.number e) (filter (is_row_of l) rows) (filter_passes (is_row_of l) rows))
      (All-nil (λ r. r.listener ≡ l.number))

  -- Each listener with its rows as those of one Route.
  pub made_of_one_door : (ls : List ServedListener) → IsStrictlyIncreasing (map (λ l. l.number) ls) → AreOfOneDoor (map (in_one rows) ls)
  made_of_one_door ls up = record {
    numbers = rw (map-map (λ (t : Listed). t.listener.number) (in_one rows) ls) up;
    own = All-map (λ t. AreOwnRows t.listener (rows_in t.routes)) (in_one rows) ls (all_of (λ l. AreOwnRows l (rows_in (in_one rows l).routes)) own_of_one ls);
  }

  listeners_of_made : (ls : List ServedListener) → map (λ t. t.listener) (map (in_one rows) ls) ≡ ls
  listeners_of_made [] = refl
  listeners_of_made (l ∷ ls) = ap (λ (m : List ServedListener). l ∷ m) (listeners_of_made ls)

  rows_of_made : (ls : List ServedListener) → flat_map (λ t. rows_in t.routes) (map (in_one rows) ls) ≡ flat_map (λ l. filter (is_row_of l) rows) ls
  rows_of_made [] = refl
  rows_of_made (l ∷ ls) =
      ap (λ (m : List Row). m ++ flat_map (λ t. rows_in t.routes) (map (in_one rows) ls)) (append-nil (filter (is_row_of l) rows))
      ∙ ap (λ (m : List Row). filter (is_row_of l) rows ++ m) (rows_of_made ls)

pub made_is : (door : Rows) → AreRowsOfDoor door → rows_with (map (in_one door.rows) door.listeners) ≡ door
made_is door are =
    ap (λ (ls : List ServedListener). record { listeners = ls; rows = flat_map (λ t. rows_in t.routes) (map (in_one door.rows) door.listeners) })
    (listeners_of_made door.rows door.listeners)
    ∙ ap (λ (rs : List Row). record { listeners = door.listeners; rows = rs }) (rows_of_made door.rows door.listeners ∙ sym are.listed)

-- The rows of a listener, put into its table.
pub table_rows : (l : ServedListener) (rows own : List Row) (empty : Listed) → own ≡ filter (is_row_of l) rows → empty ≡ record { listener = l; routes = [] }
    → AreApart (filter (is_row_of l) rows) → AreRowsOf empty.listener (own ++ rows_in empty.routes)
table_rows l rows own empty is none apart =
    subst (λ (t : Listed). AreRowsOf t.listener (own ++ rows_in t.routes)) (sym none)
    (subst (λ (r : List Row). AreRowsOf l (r ++ [])) (sym is)
    (record { own = own_of_one rows l; apart = subst AreApart (sym (append-nil (filter (is_row_of l) rows))) apart }))

-- The tables of all.
module _ (door : Rows) (ls : List ServedListener) (rows : List Row) (tables : List Listed) (same : ls ≡ door.listeners) (own : rows ≡ door.rows)
    (made : tables ≡ map (in_one rows) ls) (are : AreRowsOfDoor door) where
  whole : tables ≡ map (in_one door.rows) door.listeners
  whole = made ∙ ap (λ (r : List Row). map (in_one r) ls) own ∙ ap (map (in_one door.rows)) same

  pub tables_of_door : AreOfOneDoor tables
  tables_of_door = subst AreOfOneDoor (sym whole) (made_of_one_door door.rows door.listeners are.numbers)

  pub tables_have : rows_with tables ≡ door
  tables_have = ap rows_with whole ∙ made_is door are
