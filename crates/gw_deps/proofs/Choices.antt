-- Tests of lists: maps, filters, lists of lists, and what a loop has gathered so far.
use Rattle.std.proofs.Common.{◌≡◌, ◌∙◌, ℕ, ◌+◌, ◌<◌, Bool, true, false, not, ◌&&◌, ◌||◌, cond, List, [], ◌∷◌, length, map, filter, flat_map, drop, get_or, refl, sym, ap, ap₂, add-one}
use Rattle.std.specs.List.{AllByRecursion, list_any}
use Rattle.std.proofs.lemmas.List.Folds.{list_any-append}
use Rattle.std.proofs.Math.Seq.{drop-cons}

pub or_false : (a : Bool) → (a || false) ≡ a
or_false true = refl
or_false false = refl

pub or_true : (a : Bool) → (a || true) ≡ true
or_true true = refl
or_true false = refl

pub or_both : (a : Bool) → (a || a) ≡ a
or_both true = refl
or_both false = refl

pub and_false : (a : Bool) → (a && false) ≡ false
and_false true = refl
and_false false = refl

pub and_true : (a : Bool) → (a && true) ≡ a
and_true true = refl
and_true false = refl

pub and_swap : (a b : Bool) → (a && b) ≡ (b && a)
and_swap true true = refl
and_swap true false = refl
and_swap false true = refl
and_swap false false = refl

pub and_assoc : (a b c : Bool) → ((a && b) && c) ≡ (a && (b && c))
and_assoc true b c = refl
and_assoc false b c = refl

pub or_swap : (a b : Bool) → (a || b) ≡ (b || a)
or_swap true b = sym (or_true b)
or_swap false b = sym (or_false b)

pub or_assoc : (a b c : Bool) → ((a || b) || c) ≡ (a || (b || c))
or_assoc true b c = refl
or_assoc false b c = refl

pub any_agree : {X : Type 0} (p q : X → Bool) → ((x : X) → p x ≡ q x) → (xs : List X) → list_any p xs ≡ list_any q xs
any_agree p q agree [] = refl
any_agree p q agree (x ∷ xs) = ap₂ (λ a b. a || b) (agree x) (any_agree p q agree xs)

pub any_none : {X : Type 0} (xs : List X) → list_any (λ x. false) xs ≡ false
any_none [] = refl
any_none (x ∷ xs) = any_none xs

any_kept : {X : Type 0} (p q : X → Bool) (b : Bool) (x : X) (rest : List X) (r : Bool) → q x ≡ b → list_any p rest ≡ r → list_any p (cond b (x ∷ rest) rest) ≡ ((q x && p x) || r)
any_kept p q true x rest r is here = rw (is, here) refl
any_kept p q false x rest r is here = rw (is, here) refl

pub any_filter : {X : Type 0} (p q : X → Bool) (xs : List X) → list_any p (filter q xs) ≡ list_any (λ x. q x && p x) xs
any_filter p q [] = refl
any_filter p q (x ∷ xs) = any_kept p q (q x) x (filter q xs) (list_any (λ x. q x && p x) xs) refl (any_filter p q xs)

pub any_map : {X Y : Type 0} (p : Y → Bool) (f : X → Y) (xs : List X) → list_any p (map f xs) ≡ list_any (λ x. p (f x)) xs
any_map p f [] = refl
any_map p f (x ∷ xs) = ap (λ b. p (f x) || b) (any_map p f xs)

pub any_flat : {X Y : Type 0} (p : Y → Bool) (f : X → List Y) (xs : List X) → list_any p (flat_map f xs) ≡ list_any (λ x. list_any p (f x)) xs
any_flat p f [] = refl
any_flat p f (x ∷ xs) = list_any-append p (f x) (flat_map f xs) ∙ ap (λ b. list_any p (f x) || b) (any_flat p f xs)

-- what a test of one and a test of another have in common doesn't depend on which comes first
pub any_and : {X : Type 0} (a : Bool) (p : X → Bool) (xs : List X) → (a && list_any p xs) ≡ list_any (λ x. a && p x) xs
any_and true p xs = refl
any_and false p xs = sym (any_none xs)

pub any_and_right : {X : Type 0} (a : Bool) (p : X → Bool) (xs : List X) → (list_any p xs && a) ≡ list_any (λ x. p x && a) xs
any_and_right a p xs = and_swap (list_any p xs) a ∙ (any_and a p xs ∙ any_agree (λ x. a && p x) (λ x. p x && a) (λ x. and_swap a (p x)) xs)

four : (a b c d : Bool) → ((a || b) || (c || d)) ≡ ((a || c) || (b || d))
four true b c d = refl
four false true c d = sym (or_true c)
four false false true d = refl
four false false false d = refl

pub any_or : {X : Type 0} (p q : X → Bool) (xs : List X) → list_any (λ x. p x || q x) xs ≡ (list_any p xs || list_any q xs)
any_or p q [] = refl
any_or p q (x ∷ xs) = ap (λ b. (p x || q x) || b) (any_or p q xs) ∙ four (p x) (q x) (list_any p xs) (list_any q xs)

pub any_any : {X Y : Type 0} (p : X → Y → Bool) (xs : List X) (ys : List Y) → list_any (λ x. list_any (p x) ys) xs ≡ list_any (λ y. list_any (λ x. p x y) xs) ys
any_any p [] ys = sym (any_none ys)
any_any p (x ∷ xs) ys = ap (λ b. list_any (p x) ys || b) (any_any p xs ys) ∙ sym (any_or (p x) (λ y. list_any (λ x. p x y) xs) ys)

-- a loop that gathers: what was there, or what some item of the rest gives, is what some item of all gives
pub any_next : {X : Type 0} (p : X → Bool) (xs : List X) (i : ℕ) (x : X) → i < length xs → x ≡ get_or xs i x → list_any p (drop i xs) ≡ (p x || list_any p (drop (i + 1) xs))
any_next p xs i x within here = rw (drop-cons xs i x within, ← here, add-one) refl

third : (a b c : Bool) → ((a || b) || c) ≡ (b || (a || c))
third true b c = sym (or_true b)
third false b c = refl

pub gathered : {X : Type 0} (p : X → Bool) (xs : List X) (i : ℕ) (x : X) (before now all : Bool) → i < length xs → x ≡ get_or xs i x
    → now ≡ (p x || before) → (before || list_any p (drop i xs)) ≡ all → (now || list_any p (drop (i + 1) xs)) ≡ all
gathered p xs i x before now all within here step so_far =
    ap (λ b. b || list_any p (drop (i + 1) xs)) step
    ∙ (third (p x) before (list_any p (drop (i + 1) xs))
    ∙ (sym (ap (λ b. before || b) (any_next p xs i x within here)) ∙ so_far))

-- of some x that passes, some y goes with it and passes: some y passes, with which some x goes that passes
pub crossed : {X Y : Type 0} (p : X → Bool) (q : X → Y → Bool) (c : Y → Bool) (xs : List X) (ys : List Y)
    → list_any (λ x. p x && list_any (λ y. q x y && c y) ys) xs ≡ list_any (λ y. list_any (λ x. p x && q x y) xs && c y) ys
crossed p q c xs ys =
    any_agree (λ x. p x && list_any (λ y. q x y && c y) ys) (λ x. list_any (λ y. (p x && q x y) && c y) ys)
    (λ x. any_and (p x) (λ y. q x y && c y) ys ∙ any_agree (λ y. p x && (q x y && c y)) (λ y. (p x && q x y) && c y) (λ y. sym (and_assoc (p x) (q x y) (c y))) ys) xs
    ∙ (any_any (λ x y. (p x && q x y) && c y) xs ys
    ∙ any_agree (λ y. list_any (λ x. (p x && q x y) && c y) xs) (λ y. list_any (λ x. p x && q x y) xs && c y) (λ y. sym (any_and_right (c y) (λ x. p x && q x y) xs)) ys)

-- tests that agree at each item
pub any_agree_all : {X : Type 0} (p q : X → Bool) (xs : List X) → AllByRecursion (λ x. p x ≡ q x) xs → list_any p xs ≡ list_any q xs
any_agree_all p q [] all = refl
any_agree_all p q (x ∷ xs) all = ap₂ (λ a b. a || b) all.0 (any_agree_all p q xs all.1)

pub all_two : {X : Type 0} (P Q R : X → Type 0) → ((x : X) → P x → Q x → R x) → (xs : List X) → AllByRecursion P xs → AllByRecursion Q xs → AllByRecursion R xs
all_two P Q R step [] first second = tt
all_two P Q R step (x ∷ xs) first second = (step x first.0 second.0, all_two P Q R step xs first.1 second.1)

any_past : {X : Type 0} (p : X → Bool) (xs : List X) → list_any p (drop (length xs) xs) ≡ false
any_past p [] = refl
any_past p (x ∷ xs) = any_past p xs

-- the loop's end
pub finished : {X : Type 0} (p : X → Bool) (xs : List X) (i : ℕ) (gathered all : Bool) → i ≡ length xs → (gathered || list_any p (drop i xs)) ≡ all → gathered ≡ all
finished p xs i gathered all end so_far =
    sym (or_false gathered) ∙ (ap (λ b. gathered || b) (sym (ap (λ n. list_any p (drop n xs)) end ∙ any_past p xs)) ∙ so_far)

drained_one : (a r before n : Bool) → ((before && not (a && not n)) && not (r && not n)) ≡ (before && not ((a || r) && not n))
drained_one true r false n = refl
drained_one true r true true = ap not (and_false r)
drained_one true r true false = refl
drained_one false r before n = ap (λ b. b && not (r && not n)) (and_true before)

-- a loop that takes away what some item gives and nothing else keeps
pub drained : {X : Type 0} (p : X → Bool) (xs : List X) (i : ℕ) (x : X) (before now n all : Bool) → i < length xs → x ≡ get_or xs i x
    → now ≡ (before && not (p x && not n)) → (before && not (list_any p (drop i xs) && not n)) ≡ all → (now && not (list_any p (drop (i + 1) xs) && not n)) ≡ all
drained p xs i x before now n all within here step so_far =
    ap (λ b. b && not (list_any p (drop (i + 1) xs) && not n)) step
    ∙ (drained_one (p x) (list_any p (drop (i + 1) xs)) before n
    ∙ (sym (ap (λ b. before && not (b && not n)) (any_next p xs i x within here)) ∙ so_far))

pub drained_all : {X : Type 0} (p : X → Bool) (xs : List X) (i : ℕ) (now n all : Bool) → i ≡ length xs → (now && not (list_any p (drop i xs) && not n)) ≡ all → now ≡ all
drained_all p xs i now n all end so_far =
    sym (and_true now) ∙ (ap (λ b. now && not (b && not n)) (sym (ap (λ m. list_any p (drop m xs)) end ∙ any_past p xs)) ∙ so_far)

-- what goes and comes again stays
pub exchanged : (after kept before next former : Bool) → after ≡ (next || kept) → kept ≡ (before && not (former && not next)) → after ≡ (next || (before && not former))
exchanged after kept before true former put removed = put
exchanged after kept before false former put removed = put ∙ (removed ∙ ap (λ b. before && not b) (and_true former))
