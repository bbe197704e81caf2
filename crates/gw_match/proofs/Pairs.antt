-- What holds of each element, and of each and all later ones.
use Rattle.std.proofs.Common.{◌≡◌, ◌∙◌, sym, ℕ, zero, suc, ◌+◌, ◌<◌, ◌≤◌, arith, Bool, not, List, [], ◌∷◌, ◌++◌, filter, map, All, AllPairs}
use Rattle.std.proofs.lemmas.List.Elements.{All-append, All-cons, All-filter, All-head, All-map, All-nil, All-tail, All-weaker}
use Rattle.std.proofs.lemmas.List.Kept.{AllPairs-cons, AllPairs-filter}
use Rattle.std.specs.List.{enumerate_from, flat_map}
use Rattle.std.specs.List.Sorted.{IsStrictlyIncreasing}
use Rattle.gw_rows.specs.model.Rows.{first_of_each}

module _ {X : Type 0} (P : X → Type 0) where
  pub all_of : ((x : X) → P x) → (xs : List X) → All P xs
  all_of each [] = All-nil P
  all_of each (x ∷ xs) = All-cons P x xs (each x) (all_of each xs)

  pub all_front : (xs ys : List X) → All P (xs ++ ys) → All P xs
  all_front [] ys all = All-nil P
  all_front (x ∷ xs) ys all = All-cons P x xs (All-head P x (xs ++ ys) all) (all_front xs ys (All-tail P x (xs ++ ys) all))

  pub all_back : (xs ys : List X) → All P (xs ++ ys) → All P ys
  all_back [] ys all = all
  all_back (x ∷ xs) ys all = all_back xs ys (All-tail P x (xs ++ ys) all)

  pub all_flat : {Y : Type 0} (f : Y → List X) (ys : List Y) → All (λ y. All P (f y)) ys → All P (flat_map f ys)
  all_flat f [] each = All-nil P
  all_flat f (y ∷ ys) each =
      All-append P (f y) (flat_map f ys) (All-head (λ y. All P (f y)) y ys each) (all_flat f ys (All-tail (λ y. All P (f y)) y ys each))

  pub all_first : (same : X → X → Bool) (xs : List X) → All P xs → All P (first_of_each same xs)
  all_first same [] all = all
  all_first same (x ∷ xs) all =
      All-cons P x (filter (λ other. not (same x other)) (first_of_each same xs)) (All-head P x xs all)
      (All-filter (λ other. not (same x other)) P (first_of_each same xs) (all_first same xs (All-tail P x xs all)))

-- Two facts of each element make a third.
pub all_both : {X : Type 0} (P Q S : X → Type 0) → ((x : X) → P x → Q x → S x) → (xs : List X) → All P xs → All Q xs → All S xs
all_both P Q S both [] all others = All-nil S
all_both P Q S both (x ∷ xs) all others =
    All-cons S x xs (both x (All-head P x xs all) (All-head Q x xs others)) (all_both P Q S both xs (All-tail P x xs all) (All-tail Q x xs others))

module _ {X : Type 0} (R : X → X → Type 0) where
  pub pairs_none : AllPairs R []
  pairs_none i j d less within = absurd (omega arith)

  pub pairs_head : (x : X) (xs : List X) → AllPairs R (x ∷ xs) → All (R x) xs
  pairs_head x xs pairs k d within = pairs zero (suc k) d (omega arith) (omega arith)

  pub pairs_tail : (x : X) (xs : List X) → AllPairs R (x ∷ xs) → AllPairs R xs
  pairs_tail x xs pairs i j d less within = pairs (suc i) (suc j) d (omega arith) (omega arith)

  pub pairs_one : (x : X) → AllPairs R (x ∷ [])
  pairs_one x = AllPairs-cons R x [] (All-nil (R x)) pairs_none

  pub pairs_back : (xs ys : List X) → AllPairs R (xs ++ ys) → AllPairs R ys
  pairs_back [] ys pairs = pairs
  pairs_back (x ∷ xs) ys pairs = pairs_back xs ys (pairs_tail x (xs ++ ys) pairs)

  pub pairs_front : (xs ys : List X) → AllPairs R (xs ++ ys) → AllPairs R xs
  pairs_front [] ys pairs = pairs_none
  pairs_front (x ∷ xs) ys pairs =
      AllPairs-cons R x xs (all_front (R x) xs ys (pairs_head x (xs ++ ys) pairs)) (pairs_front xs ys (pairs_tail x (xs ++ ys) pairs))

  pub pairs_append : (xs ys : List X) → AllPairs R xs → AllPairs R ys → All (λ x. All (R x) ys) xs → AllPairs R (xs ++ ys)
  pairs_append [] ys first second across = second
  pairs_append (x ∷ xs) ys first second across =
      AllPairs-cons R x (xs ++ ys)
      (All-append (R x) xs ys (pairs_head x xs first) (All-head (λ z. All (R z) ys) x xs across))
      (pairs_append xs ys (pairs_tail x xs first) second (All-tail (λ z. All (R z) ys) x xs across))

  pub pairs_first : (same : X → X → Bool) (xs : List X) → AllPairs R xs → AllPairs R (first_of_each same xs)
  pairs_first same [] pairs = pairs
  pairs_first same (x ∷ xs) pairs =
      let others : X → Bool = λ other. not (same x other) in
      AllPairs-cons R x (filter others (first_of_each same xs))
      (All-filter others (R x) (first_of_each same xs) (all_first (R x) same xs (pairs_head x xs pairs)))
      (AllPairs-filter R others (first_of_each same xs) (pairs_first same xs (pairs_tail x xs pairs)))

  pub pairs_map : {Y : Type 0} (f : Y → X) (ys : List Y) → AllPairs (λ y z. R (f y) (f z)) ys → AllPairs R (map f ys)
  pairs_map f [] pairs = pairs_none
  pairs_map f (y ∷ ys) pairs =
      AllPairs-cons R (f y) (map f ys) (All-map (R (f y)) f ys (pairs_head_of y ys pairs)) (pairs_map f ys (pairs_tail_of y ys pairs))
    where
      pairs_head_of : (y : _) (ys : _) → AllPairs (λ y z. R (f y) (f z)) (y ∷ ys) → All (λ z. R (f y) (f z)) ys
      pairs_head_of y ys pairs k d within = pairs zero (suc k) d (omega arith) (omega arith)

      pairs_tail_of : (y : _) (ys : _) → AllPairs (λ y z. R (f y) (f z)) (y ∷ ys) → AllPairs (λ y z. R (f y) (f z)) ys
      pairs_tail_of y ys pairs i j d less within = pairs (suc i) (suc j) d (omega arith) (omega arith)

-- Where the order of two plays no part, parts may change places.
module _ {X : Type 0} (R : X → X → Type 0) (turned : (x y : X) → R x y → R y x) where
  between : (x : X) (xs ys : List X) → All (R x) (xs ++ ys) → AllPairs R (xs ++ ys) → AllPairs R (xs ++ x ∷ ys)
  between x [] ys beside pairs = AllPairs-cons R x ys beside pairs
  between x (z ∷ xs) ys beside pairs =
      let after : All (R z) (xs ++ ys) = pairs_head R z (xs ++ ys) pairs in
      AllPairs-cons R z (xs ++ x ∷ ys)
      (All-append (R z) xs (x ∷ ys) (all_front (R z) xs ys after)
      (All-cons (R z) x ys (turned x z (All-head (R x) z (xs ++ ys) beside)) (all_back (R z) xs ys after)))
      (between x xs ys (All-tail (R x) z (xs ++ ys) beside) (pairs_tail R z (xs ++ ys) pairs))

  all_moved : (P : X → Type 0) (xs ys zs : List X) → All P (xs ++ (ys ++ zs)) → All P (ys ++ (xs ++ zs))
  all_moved P xs ys zs all =
      let behind : All P (ys ++ zs) = all_back P xs (ys ++ zs) all in
      All-append P ys (xs ++ zs) (all_front P ys zs behind) (All-append P xs zs (all_front P xs (ys ++ zs) all) (all_back P ys zs behind))

  pub pairs_moved : (xs ys zs : List X) → AllPairs R (xs ++ (ys ++ zs)) → AllPairs R (ys ++ (xs ++ zs))
  pairs_moved [] ys zs pairs = pairs
  pairs_moved (x ∷ xs) ys zs pairs =
      between x ys (xs ++ zs) (all_moved (R x) xs ys zs (pairs_head R x (xs ++ (ys ++ zs)) pairs)) (pairs_moved xs ys zs (pairs_tail R x (xs ++ (ys ++ zs)) pairs))

-- Those that are made of different things have different keys.
module _ {X Y K : Type 0} (R : X → X → Type 0) (key : X → K) (differ : (a b : X) → (key a ≡ key b → ⊥) → R a b) (label : Y → K) (f : Y → List X)
    (named : (y : Y) → All (λ x. key x ≡ label y) (f y)) (each : (y : Y) → AllPairs R (f y)) where
  pub pairs_flat : (ys : List Y) → AllPairs (λ y z. label y ≡ label z → ⊥) ys → AllPairs R (flat_map f ys)
  pairs_flat [] apart = pairs_none R
  pairs_flat (y ∷ ys) apart =
      pairs_append R (f y) (flat_map f ys) (each y) (pairs_flat ys (pairs_tail (λ y z. label y ≡ label z → ⊥) y ys apart))
      (All-weaker (λ x. key x ≡ label y) (λ x. All (R x) (flat_map f ys)) others (f y) (named y))
    where
      others : (x : X) → key x ≡ label y → All (R x) (flat_map f ys)
      others x is =
          all_flat (R x) f ys
          (All-weaker (λ z. label y ≡ label z → ⊥) (λ z. All (R x) (f z))
          (λ z other. All-weaker (λ w. key w ≡ label z) (R x) (λ w at. differ x w (λ same. other (sym is ∙ (same ∙ at)))) (f z) (named z)) ys
          (pairs_head (λ y z. label y ≡ label z → ⊥) y ys apart))

-- The places count up.
later_places : {X : Type 0} (n : ℕ) (xs : List X) → All (λ (p : ℕ × X). n ≤ p.0) (enumerate_from n xs)
later_places n [] = All-nil (λ p. n ≤ p.0)
later_places {X} n (x ∷ xs) =
    All-cons (λ (p : ℕ × X). n ≤ p.0) (n, x) (enumerate_from (n + 1) xs) (omega arith)
    (All-weaker (λ (p : ℕ × X). n + 1 ≤ p.0) (λ (p : ℕ × X). n ≤ p.0) (λ p more. omega arith) (enumerate_from (n + 1) xs) (later_places (n + 1) xs))

pub places_count_up : {X : Type 0} (n : ℕ) (xs : List X) → AllPairs (λ (p q : ℕ × X). p.0 < q.0) (enumerate_from n xs)
places_count_up n [] = pairs_none (λ p q. p.0 < q.0)
places_count_up {X} n (x ∷ xs) =
    AllPairs-cons (λ (p q : ℕ × X). p.0 < q.0) (n, x) (enumerate_from (n + 1) xs)
    (All-weaker (λ (p : ℕ × X). n + 1 ≤ p.0) (λ (q : ℕ × X). n < q.0) (λ p more. omega arith) (enumerate_from (n + 1) xs) (later_places (n + 1) xs))
    (places_count_up (n + 1) xs)

pub pairs_weaker : {X : Type 0} (R S : X → X → Type 0) → ((x y : X) → R x y → S x y) → (xs : List X) → AllPairs R xs → AllPairs S xs
pairs_weaker R S so [] pairs = pairs_none S
pairs_weaker R S so (x ∷ xs) pairs =
    AllPairs-cons S x xs (All-weaker (R x) (S x) (so x) xs (pairs_head R x xs pairs)) (pairs_weaker R S so xs (pairs_tail R x xs pairs))

pub places_differ : {X : Type 0} (n : ℕ) (xs : List X) → AllPairs (λ (p q : ℕ × X). p.0 ≡ q.0 → ⊥) (enumerate_from n xs)
places_differ {X} n xs =
    pairs_weaker (λ (p q : ℕ × X). p.0 < q.0) (λ (p q : ℕ × X). p.0 ≡ q.0 → ⊥) (λ p q less same. omega arith) (enumerate_from n xs) (places_count_up n xs)

pub increasing : (ns : List ℕ) → AllPairs (λ a b. a < b) ns → IsStrictlyIncreasing ns
increasing ns pairs k within = pairs k (k + 1) 0 (omega arith) within
