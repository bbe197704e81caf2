-- Lists that have the same elements, in another order.
use Rattle.std.proofs.Common.{◌≡◌, ◌∙◌, refl, sym, ap, subst, ℕ, zero, suc, ◌<◌, arith, Bool, true, false, List, [], ◌∷◌, ◌++◌, length, get_or, set, filter, swap, IsPermutation}
use Rattle.std.proofs.lemmas.List.Edits.{swap_is}
use Rattle.std.proofs.lemmas.List.Sorted.{IsPermutation-cons, IsPermutation-keeps, IsPermutation-middle, IsPermutation-refl, IsPermutation-sym, IsPermutation-trans}

-- What holds of a list and itself, behind an element that is put before both, where the first two change places, and from one list to the
-- next, holds of a list and its permutation.
module _ {X : Type 0} (R : List X → List X → Type 0) (same : (l : List X) → R l l) (behind : (x : X) (l m : List X) → R l m → R (x ∷ l) (x ∷ m))
    (turned : (x y : X) (l : List X) → R (x ∷ y ∷ l) (y ∷ x ∷ l)) (joined : (l m n : List X) → R l m → R m n → R l n) where
  -- The first element and another change places.
  first_turned : (x : X) (l : List X) (j : ℕ) → j < length l → R (x ∷ l) (get_or l j x ∷ set l j x)
  first_turned x [] j within = absurd (omega arith)
  first_turned x (y ∷ l) zero within = turned x y l
  first_turned x (y ∷ l) (suc j) within =
      joined (x ∷ y ∷ l) (y ∷ x ∷ l) (get_or l j x ∷ y ∷ set l j x) (turned x y l)
      (joined (y ∷ x ∷ l) (y ∷ get_or l j x ∷ set l j x) (get_or l j x ∷ y ∷ set l j x)
      (behind y (x ∷ l) (get_or l j x ∷ set l j x) (first_turned x l j (omega arith))) (turned y (get_or l j x) (set l j x)))

  two_turned : (l : List X) (i j : ℕ) → i < length l → j < length l → R l (swap l i j)
  two_turned [] i j first second = absurd (omega arith)
  two_turned (x ∷ l) zero zero first second = same (x ∷ l)
  two_turned (x ∷ l) zero (suc j) first second = first_turned x l j (omega arith)
  two_turned (x ∷ l) (suc i) zero first second = first_turned x l i (omega arith)
  two_turned (x ∷ l) (suc i) (suc j) first second =
      let inner : i < length l = omega arith in
      let outer : j < length l = omega arith in
      let is : set (set l i (get_or l j x)) j (get_or l i x) ≡ swap l i j = swap_is l i j x inner outer in
      subst (λ (m : List X). R (x ∷ l) (x ∷ m)) (sym is) (behind x l (swap l i j) (two_turned l i j inner outer))

  pub of_permutation : (xs ys : List X) → IsPermutation xs ys → R xs ys
  of_permutation xs ys = IsPermutation-keeps xs (R xs) (same xs) (λ l i j first second so. joined xs l (swap l i j) so (two_turned l i j first second)) ys

module _ {X : Type 0} where
  flipped : (x y : X) (l : List X) → IsPermutation (x ∷ y ∷ l) (y ∷ x ∷ l)
  flipped x y l = IsPermutation-middle (x ∷ []) y l

  -- What passes a test is permuted too.
  module _ (test : X → Bool) where
    abbrev AreKept : List X → List X → Type 0
    AreKept l m = IsPermutation (filter test l) (filter test m)

    kept_behind : (x : X) (l m : List X) → AreKept l m → AreKept (x ∷ l) (x ∷ m)
    kept_behind x l m so = by (test x) refl
      where
        by : (b : Bool) → test x ≡ b → AreKept (x ∷ l) (x ∷ m)
        by true e = rw e (IsPermutation-cons x (filter test l) (filter test m) so)
        by false e = rw e so

    kept_turned : (x y : X) (l : List X) → AreKept (x ∷ y ∷ l) (y ∷ x ∷ l)
    kept_turned x y l = by (test x) refl (test y) refl
      where
        by : (b : Bool) → test x ≡ b → (c : Bool) → test y ≡ c → AreKept (x ∷ y ∷ l) (y ∷ x ∷ l)
        by true e true f = rw (e, f) (flipped x y (filter test l))
        by true e false f = rw (e, f) (IsPermutation-refl (x ∷ filter test l))
        by false e true f = rw (e, f) (IsPermutation-refl (y ∷ filter test l))
        by false e false f = rw (e, f) (IsPermutation-refl (filter test l))

    pub filter_permutation : (xs ys : List X) → IsPermutation xs ys → IsPermutation (filter test xs) (filter test ys)
    filter_permutation xs ys =
        of_permutation AreKept (λ l. IsPermutation-refl (filter test l)) kept_behind kept_turned
        (λ l m n one two. IsPermutation-trans (filter test l) (filter test m) (filter test n) one two) xs ys

  -- An element stands in a list, and the others are a permutation of these.
  record HasBeside (x : X) (others list : List X) : Type 0 where
    front : List X
    back : List X
    is : list ≡ front ++ x ∷ back
    beside : IsPermutation others (front ++ back)

  -- Each element stands in the permutation, and the others are permuted.
  abbrev HasEach : List X → List X → Type 0
  HasEach l m = IsPermutation l m × ((x : X) (a b : List X) → l ≡ a ++ x ∷ b → HasBeside x (a ++ b) m)

  each_same : (l : List X) → HasEach l l
  each_same l = (IsPermutation-refl l, λ x a b is. record { front = a; back = b; is = is; beside = IsPermutation-refl (a ++ b) })

  each_behind : (y : X) (l m : List X) → HasEach l m → HasEach (y ∷ l) (y ∷ m)
  each_behind y l m has = (IsPermutation-cons y l m has.0, one)
    where
      one : (x : X) (a b : List X) → y ∷ l ≡ a ++ x ∷ b → HasBeside x (a ++ b) (y ∷ m)
      one x [] b is =
          let here : y ≡ x = cc in
          let rest : l ≡ b = cc in
          record { front = []; back = m; is = ap (λ (z : X). z ∷ m) here; beside = subst (λ (k : List X). IsPermutation k m) rest has.0 }
      one x (z ∷ a) b is =
          let here : y ≡ z = cc in
          let rest : l ≡ a ++ x ∷ b = cc in
          let more = has.1 x a b rest in
          record {
            front = z ∷ more.front;
            back = more.back;
            is = ap (λ (k : List X). y ∷ k) more.is ∙ ap (λ (w : X). w ∷ (more.front ++ x ∷ more.back)) here;
            beside = IsPermutation-cons z (a ++ b) (more.front ++ more.back) more.beside;
          }

  each_turned : (y z : X) (l : List X) → HasEach (y ∷ z ∷ l) (z ∷ y ∷ l)
  each_turned y z l = (flipped y z l, one)
    where
      one : (x : X) (a b : List X) → y ∷ z ∷ l ≡ a ++ x ∷ b → HasBeside x (a ++ b) (z ∷ y ∷ l)
      one x [] b is =
          let here : y ≡ x = cc in
          let rest : z ∷ l ≡ b = cc in
          record {
            front = z ∷ [];
            back = l;
            is = ap (λ (w : X). z ∷ w ∷ l) here;
            beside = subst (λ (k : List X). IsPermutation k (z ∷ l)) rest (IsPermutation-refl (z ∷ l));
          }
      one x (u ∷ []) b is =
          let first : y ≡ u = cc in
          let here : z ≡ x = cc in
          let rest : y ∷ l ≡ u ∷ b = cc in
          record {
            front = [];
            back = y ∷ l;
            is = ap (λ (w : X). w ∷ y ∷ l) here;
            beside = subst (λ (k : List X). IsPermutation k (y ∷ l)) rest (IsPermutation-refl (y ∷ l));
          }
      one x (u ∷ v ∷ a) b is =
          let whole : z ∷ y ∷ l ≡ v ∷ u ∷ (a ++ x ∷ b) = cc in
          record { front = v ∷ u ∷ a; back = b; is = whole; beside = flipped u v (a ++ b) }

  each_joined : (l m n : List X) → HasEach l m → HasEach m n → HasEach l n
  each_joined l m n has more = (IsPermutation-trans l m n has.0 more.0, one)
    where
      one : (x : X) (a b : List X) → l ≡ a ++ x ∷ b → HasBeside x (a ++ b) n
      one x a b is =
          let mid = has.1 x a b is in
          let last = more.1 x mid.front mid.back mid.is in
          record {
            front = last.front;
            back = last.back;
            is = last.is;
            beside = IsPermutation-trans (a ++ b) (mid.front ++ mid.back) (last.front ++ last.back) mid.beside last.beside;
          }

  -- What stands behind an element that both begin with is permuted.
  pub permutation_behind : (x : X) (xs ys : List X) → IsPermutation (x ∷ xs) (x ∷ ys) → IsPermutation xs ys
  permutation_behind x xs ys so =
      let has = (of_permutation HasEach each_same each_behind each_turned each_joined (x ∷ xs) (x ∷ ys) so).1 x [] xs refl in
      by has.front has.back has.is has.beside
    where
      by : (front back : List X) → x ∷ ys ≡ front ++ x ∷ back → IsPermutation xs (front ++ back) → IsPermutation xs ys
      by [] back is beside =
          let rest : back ≡ ys = cc in
          subst (IsPermutation xs) rest beside
      by (z ∷ front) back is beside =
          let first : z ≡ x = cc in
          let rest : front ++ x ∷ back ≡ ys = cc in
          let moved : IsPermutation xs (x ∷ (front ++ back)) = subst (λ (w : X). IsPermutation xs (w ∷ (front ++ back))) first beside in
          subst (IsPermutation xs) rest
          (IsPermutation-trans xs (x ∷ (front ++ back)) (front ++ x ∷ back) moved
          (IsPermutation-sym (front ++ x ∷ back) (x ∷ (front ++ back)) (IsPermutation-middle front x back)))
