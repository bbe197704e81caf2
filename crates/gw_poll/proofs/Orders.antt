-- Lists in another order, and numbers among others.
use Rattle.std.proofs.Common.{◌≡◌, ℕ, zero, suc, ◌<◌, ◌==◌, ◌&&◌, ◌||◌, Bool, true, false, not, cond, eqb, List, [], ◌∷◌, ◌++◌, map, filter, flat_map, length, get_or, set, swap, refl, ap, ◌∙◌, subst, arith, append_assoc, IsPermutation, All}
use Rattle.std.specs.List.{AllByRecursion, list_any}
use Rattle.std.proofs.lemmas.Bool.Decides.{nat_tests}
use Rattle.std.proofs.lemmas.List.Elements.{All-cons, All-head, All-nil, All-tail}
use Rattle.std.proofs.lemmas.List.Sorted.{IsPermutation-append_comm, IsPermutation-append_left, IsPermutation-append_right, IsPermutation-keeps, IsPermutation-refl, IsPermutation-trans}
use Rattle.gw_polling.specs.Rings.{is_among, without}

-- A relation that holds of equal lists, goes under a head and over an exchange of two heads, and is transitive, holds in any order.
module _ {X : Type 0} (R : List X → List X → Type 0) (same : (xs : List X) → R xs xs)
    (skip : (x : X) (xs ys : List X) → R xs ys → R (x ∷ xs) (x ∷ ys))
    (turn : (x y : X) (xs : List X) → R (x ∷ y ∷ xs) (y ∷ x ∷ xs))
    (chain : (xs ys zs : List X) → R xs ys → R ys zs → R xs zs) where
  to_head : (l : List X) (j : ℕ) (x d : X) → j < length l → R (x ∷ l) (get_or l j d ∷ set l j x)
  to_head [] j x d h = absurd (omega arith)
  to_head (y ∷ l) zero x d h = turn x y l
  to_head (y ∷ l) (suc j) x d h =
      chain _ _ _ (turn x y l) (chain _ _ _ (skip y _ _ (to_head l j x d (omega arith))) (turn y (get_or l j d) (set l j x)))

  exchanged : (l : List X) (i j : ℕ) (d : X) → i < length l → j < length l → R l (set (set l i (get_or l j d)) j (get_or l i d))
  exchanged [] i j d p q = absurd (omega arith)
  exchanged (x ∷ l) zero zero d p q = same (x ∷ l)
  exchanged (x ∷ l) zero (suc j) d p q = to_head l j x d (omega arith)
  exchanged (x ∷ l) (suc i) zero d p q = to_head l i x d (omega arith)
  exchanged (x ∷ l) (suc i) (suc j) d p q = skip x _ _ (exchanged l i j d (omega arith) (omega arith))

  swapped : (l : List X) (i j : ℕ) → i < length l → j < length l → R l (swap l i j)
  swapped [] i j p q = same []
  swapped (x ∷ l) i j p q = exchanged (x ∷ l) i j x p q

  along : (xs ys : List X) → IsPermutation xs ys → R xs ys
  along xs = IsPermutation-keeps xs (R xs) (same xs) (λ l i j p q h. chain xs l _ h (swapped l i j p q))

filter_chosen : {X : Type 0} (p : X → Bool) (xs : List X) → filter p xs ≡ flat_map (λ x. cond (p x) (x ∷ []) []) xs
filter_chosen p [] = refl
filter_chosen p (x ∷ xs) =
    elim (p x) as (λ b. cond b (x ∷ filter p xs) (filter p xs) ≡ cond b (x ∷ []) [] ++ flat_map (λ y. cond (p y) (y ∷ []) []) xs)
    [ true ↦ ap (λ l. x ∷ l) (filter_chosen p xs) | false ↦ filter_chosen p xs ]

flat_map_order : {A B : Type 0} (f : A → List B) (xs ys : List A) → IsPermutation xs ys → IsPermutation (flat_map f xs) (flat_map f ys)
flat_map_order f = along (λ xs ys. IsPermutation (flat_map f xs) (flat_map f ys))
    (λ xs. IsPermutation-refl _)
    (λ x xs ys h. IsPermutation-append_right (f x) _ _ h)
    (λ x y xs. rw (← append_assoc (f x), ← append_assoc (f y)) (IsPermutation-append_left (flat_map f xs) _ _ (IsPermutation-append_comm (f x) (f y))))
    (λ xs ys zs. IsPermutation-trans _ _ _)

filter_order : {X : Type 0} (p : X → Bool) (xs ys : List X) → IsPermutation xs ys → IsPermutation (filter p xs) (filter p ys)
filter_order p xs ys h = rw (filter_chosen p xs, filter_chosen p ys) (flat_map_order _ xs ys h)

-- What a test passes of a list whose front it refuses and whose rest it passes is the rest.
filter_rest : {A X : Type 0} (p : X → Bool) (f : A → X) (firsts : List A) (rest : List X) → All (λ a. p (f a) ≡ false) firsts → All (λ x. p x ≡ true) rest
    → filter p (map f firsts ++ rest) ≡ rest
filter_rest {A} {X} p f (a ∷ firsts) rest none all =
    let refused : A → Type 0 = λ a. p (f a) ≡ false in
    let here : p (f a) ≡ false = All-head refused a firsts none in
    ap (λ (b : Bool). cond b (f a ∷ filter p (map f firsts ++ rest)) (filter p (map f firsts ++ rest))) here ∙ filter_rest p f firsts rest (All-tail refused a firsts none) all
filter_rest p f [] [] none all = refl
filter_rest {A} {X} p f [] (x ∷ rest) none all =
    let passed : X → Type 0 = λ x. p x ≡ true in
    let here : p x ≡ true = All-head passed x rest all in
    ap (λ (b : Bool). cond b (x ∷ filter p rest) (filter p rest)) here ∙ ap (λ l. x ∷ l) (filter_rest p f [] rest none (All-tail passed x rest all))

pub IsPermutation-rest : {A X : Type 0} (p : X → Bool) (f : A → X) (xs : List X) (firsts : List A) (rest : List X) → IsPermutation xs (map f firsts ++ rest)
    → All (λ a. p (f a) ≡ false) firsts → All (λ x. p x ≡ true) rest → IsPermutation (filter p xs) rest
IsPermutation-rest p f xs firsts rest order none all = subst (IsPermutation (filter p xs)) (filter_rest p f firsts rest none all) (filter_order p xs (map f firsts ++ rest) order)

-- What holds of a list holds of its front.
pub all_front : {A X : Type 0} (P : X → Type 0) (f : A → X) (firsts : List A) (rest : List X) → All P (map f firsts ++ rest) → All (λ a. P (f a)) firsts
all_front P f [] rest all = All-nil _
all_front {A} P f (a ∷ firsts) rest all = All-cons (λ (a : A). P (f a)) a firsts (All-head P (f a) (map f firsts ++ rest) all) (all_front P f firsts rest (All-tail P (f a) (map f firsts ++ rest) all))

and_false : (a : Bool) → a && false ≡ false
and_false true = refl
and_false false = refl

pub or_true : (a : Bool) → a || true ≡ true
or_true true = refl
or_true false = refl

-- A number is among those without another one where it is among all, and isn't that one.
pub among_without : (m n : ℕ) (xs : List ℕ) → is_among m (without n xs) ≡ is_among m xs && not (m == n)
among_without m n [] = refl
among_without m n (x ∷ xs) =
    let more : is_among m (without n xs) ≡ is_among m xs && not (m == n) = among_without m n xs in
    by (x == n) (x == m) (m == n) refl refl refl more
  where
    by : (a b c : Bool) → (x == n) ≡ a → (x == m) ≡ b → (m == n) ≡ c → is_among m (without n xs) ≡ is_among m xs && not (m == n)
        → list_any (λ o. o == m) (cond (not (x == n)) (x ∷ without n xs) (without n xs)) ≡ (x == m || is_among m xs) && not (m == n)
    by true true true e f g more = rw (e, f, g) (rw g at more ∙ and_false (is_among m xs))
    by true true false e f g more = let no : ⊥ = grind (arith, nat_tests) in absurd no
    by true false c e f g more = rw (e, f) more
    by false true true e f g more = let no : ⊥ = grind (arith, nat_tests) in absurd no
    by false true false e f g more = rw (e, f, g) refl
    by false false c e f g more = rw (e, f) more

-- One that is apart from all isn't among them.
pub among_apart : (n : ℕ) (xs : List ℕ) → AllByRecursion (λ x. eqb n x ≡ false) xs → is_among n xs ≡ false
among_apart n [] all = refl
among_apart n (x ∷ xs) all =
    let here : (x == n) ≡ false = grind (arith, nat_tests, all.0) in
    rw (here, among_apart n xs all.1) refl
