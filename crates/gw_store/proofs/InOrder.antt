-- Lists in strict order: what a put and a removal make of them, and where a binary search finds their place.
use Rattle.std.proofs.Common.{◌≡◌, ◌∙◌, ℕ, zero, suc, ◌<◌, ◌≤◌, ◌+◌, add-one, Bool, true, false, cond, Result, Ok, Err, List, [], ◌∷◌, ◌++◌, length, filter, refl, sym, ap, arith, get_or, set}
use Rattle.std.specs.Cmp.{IsTotalOrder}
use Rattle.std.specs.List.{AllByRecursion, AllWithin, HoldsAt, insert, remove as remove_at}
use Rattle.std.specs.List.Sorted.{IsStrictlySortedBy, IsSortedBy, IsSearchInRange, IsBinarySearchResult}
use Rattle.std.specs.Ordering.{is_lt, is_gt, is_ne, ordering_reverse}
use Rattle.std.specs.Result.{MatchResult}
use Rattle.std.specs.declared.cmp.Ordering.{Ordering}
use Rattle.std.specs.declared.cmp.Ordering.TheVariants.{Less, Equal, Greater}
use Rattle.std.proofs.lemmas.List.Sorted.{searchable_from_sorted}

module _ {X : Type 0} (P : X → Type 0) where
  pub all_weaker : (Q : X → Type 0) → ((x : X) → P x → Q x) → (xs : List X) → AllByRecursion P xs → AllByRecursion Q xs
  all_weaker Q step [] all = tt
  all_weaker Q step (x ∷ xs) all = (step x all.0, all_weaker Q step xs all.1)

  pub all_append : (xs ys : List X) → AllByRecursion P xs → AllByRecursion P ys → AllByRecursion P (xs ++ ys)
  all_append [] ys first second = second
  all_append (x ∷ xs) ys first second = (first.0, all_append xs ys first.1 second)

  all_cond : (b : Bool) (x : X) (xs : List X) → P x → AllByRecursion P xs → AllByRecursion P (cond b (x ∷ xs) xs)
  all_cond true x xs here all = (here, all)
  all_cond false x xs here all = all

  pub all_filter : (q : X → Bool) (xs : List X) → AllByRecursion P xs → AllByRecursion P (filter q xs)
  all_filter q [] all = tt
  all_filter q (x ∷ xs) all = all_cond (q x) x (filter q xs) all.0 (all_filter q xs all.1)

module _ {X : Type 0} (order : X → X → Ordering) (e : X) where
  -- the elements before e, behind it, and both
  abbrev pub before : List X → List X
  before xs = filter (λ x. is_lt (order x e)) xs

  abbrev pub behind : List X → List X
  behind xs = filter (λ x. is_gt (order x e)) xs

  abbrev pub others : List X → List X
  others xs = filter (λ x. is_ne (order x e)) xs

  abbrev pub Above : List X → Type 0
  Above xs = AllByRecursion (λ x. order x e ≡ Greater) xs

  none_before : (xs : List X) → Above xs → before xs ≡ []
  none_before [] all = refl
  none_before (x ∷ xs) all = rw all.0 (none_before xs all.1)

  all_behind : (xs : List X) → Above xs → behind xs ≡ xs
  all_behind [] all = refl
  all_behind (x ∷ xs) all = rw all.0 (ap (λ t. x ∷ t) (all_behind xs all.1))

  all_others : (xs : List X) → Above xs → others xs ≡ xs
  all_others [] all = refl
  all_others (x ∷ xs) all = rw all.0 (ap (λ t. x ∷ t) (all_others xs all.1))

  -- an element that ties with e stands at i
  abbrev pub StandsAt : List X → ℕ → Type 0
  StandsAt [] i = ⊥
  StandsAt (x ∷ xs) zero = (order x e ≡ Equal) × Above xs
  StandsAt (x ∷ xs) (suc i) = (order x e ≡ Less) × StandsAt xs i

  -- none does, and i is its place
  abbrev pub IsMissingAt : List X → ℕ → Type 0
  IsMissingAt xs zero = Above xs
  IsMissingAt [] (suc i) = ⊥
  IsMissingAt (x ∷ xs) (suc i) = (order x e ≡ Less) × IsMissingAt xs i

  pub put_standing : (xs : List X) (i : ℕ) → StandsAt xs i → set xs i e ≡ before xs ++ e ∷ behind xs
  put_standing [] i stands = absurd stands
  put_standing (x ∷ xs) zero stands = rw (stands.0, none_before xs stands.1, all_behind xs stands.1) refl
  put_standing (x ∷ xs) (suc i) stands = rw stands.0 (ap (λ t. x ∷ t) (put_standing xs i stands.1))

  pub put_missing : (xs : List X) (i : ℕ) → IsMissingAt xs i → insert xs i e ≡ before xs ++ e ∷ behind xs
  put_missing xs zero gap = rw (none_before xs gap, all_behind xs gap) refl
  put_missing [] (suc i) gap = absurd gap
  put_missing (x ∷ xs) (suc i) gap = rw gap.0 (ap (λ t. x ∷ t) (put_missing xs i gap.1))

  pub remove_standing : (xs : List X) (i : ℕ) → StandsAt xs i → remove_at xs i ≡ others xs
  remove_standing [] i stands = absurd stands
  remove_standing (x ∷ xs) zero stands = rw (stands.0, all_others xs stands.1) refl
  remove_standing (x ∷ xs) (suc i) stands = rw stands.0 (ap (λ t. x ∷ t) (remove_standing xs i stands.1))

  pub remove_missing : (xs : List X) (i : ℕ) → IsMissingAt xs i → xs ≡ others xs
  remove_missing xs zero gap = sym (all_others xs gap)
  remove_missing [] (suc i) gap = absurd gap
  remove_missing (x ∷ xs) (suc i) gap = rw gap.0 (ap (λ t. x ∷ t) (remove_missing xs i gap.1))

module _ {X : Type 0} (order : X → X → Ordering) (total : IsTotalOrder order) where
  turned : (x y : X) (o : Ordering) → order x y ≡ o → order y x ≡ ordering_reverse o
  turned x y o is = total.antisymm y x ∙ ap ordering_reverse is

  module _ (e : X) where
    -- what comes after a higher element is higher, and so is what comes after one that ties
    above_higher : (x : X) (xs : List X) → order x e ≡ Greater → AllByRecursion (λ y. order x y ≡ Less) xs → Above order e xs
    above_higher x xs high all = all_weaker (λ y. order x y ≡ Less) (λ y. order y e ≡ Greater) (λ y later. turned e y Less (total.trans e x y (turned x e Greater high) later)) xs all

    above_equal : (x : X) (xs : List X) → order x e ≡ Equal → AllByRecursion (λ y. order x y ≡ Less) xs → Above order e xs
    above_equal x xs same all = all_weaker (λ y. order x y ≡ Less) (λ y. order y e ≡ Greater) (λ y later. turned e y Less (sym (total.congr x e y same) ∙ later)) xs all

    -- of an order without ties for e, those before and those behind are all others
    apart_more : (x : X) (xs : List X) (o : Ordering) → order x e ≡ o → AllByRecursion (λ y. order x y ≡ Less) xs → before order e xs ++ behind order e xs ≡ others order e xs
        → before order e (x ∷ xs) ++ behind order e (x ∷ xs) ≡ others order e (x ∷ xs)
    apart_more x xs Less is later rest = rw is (ap (λ t. x ∷ t) rest)
    apart_more x xs Equal is later rest = rw is rest
    apart_more x xs Greater is later rest =
        let above = above_higher x xs is later in
        rw (is, none_before order e xs above, all_behind order e xs above, all_others order e xs above) refl

    pub apart : (xs : List X) → IsStrictlySortedBy order xs → before order e xs ++ behind order e xs ≡ others order e xs
    unfolding IsStrictlySortedBy
    apart [] sorted = refl
    apart (x ∷ xs) sorted = apart_more x xs (order x e) refl sorted.0 (apart xs sorted.1)

    -- a put keeps the order
    ordered_more : (x : X) (xs : List X) (o : Ordering) → order x e ≡ o → IsStrictlySortedBy order (x ∷ xs) → IsStrictlySortedBy order (before order e xs ++ e ∷ behind order e xs)
        → IsStrictlySortedBy order (before order e (x ∷ xs) ++ e ∷ behind order e (x ∷ xs))
    unfolding IsStrictlySortedBy
    ordered_more x xs Less is sorted rest =
        let later : X → Type 0 = λ y. order x y ≡ Less in
        rw is (
          all_append later (before order e xs) (e ∷ behind order e xs) (all_filter later _ xs sorted.0) (is, all_filter later _ xs sorted.0),
          rest,
        )
    ordered_more x xs Equal is sorted rest = rw is rest
    ordered_more x xs Greater is sorted rest =
        let above = above_higher x xs is sorted.0 in
        let lower : AllByRecursion (λ y. order e y ≡ Less) xs = all_weaker (λ y. order y e ≡ Greater) (λ y. order e y ≡ Less) (λ y high. turned y e Greater high) xs above in
        rw (is, none_before order e xs above, all_behind order e xs above) ((turned x e Greater is, lower), sorted)

    pub ordered_put : (xs : List X) → IsStrictlySortedBy order xs → IsStrictlySortedBy order (before order e xs ++ e ∷ behind order e xs)
    unfolding IsStrictlySortedBy
    ordered_put [] sorted = (tt, tt)
    ordered_put (x ∷ xs) sorted = ordered_more x xs (order x e) refl sorted (ordered_put xs sorted.1)

    -- what a binary search finds
    before_standing : (x : X) (xs : List X) (i : ℕ) → AllByRecursion (λ y. order x y ≡ Less) xs → StandsAt order e xs i → order x e ≡ Less
    before_standing x [] i all stands = absurd stands
    before_standing x (y ∷ xs) zero all stands = turned e x Greater (sym (total.congr y e x stands.0) ∙ turned x y Less all.0)
    before_standing x (y ∷ xs) (suc i) all stands = before_standing x xs i all.1 stands.1

    standing : (xs : List X) (i : ℕ) → IsStrictlySortedBy order xs → i < length xs → HoldsAt (λ x. order x e ≡ Equal) xs i → StandsAt order e xs i
    unfolding IsStrictlySortedBy
    standing [] i sorted within here = absurd (omega arith)
    standing (x ∷ xs) zero sorted within here = (here x, above_equal x xs (here x) sorted.0)
    standing (x ∷ xs) (suc i) sorted within here =
        let rest : StandsAt order e xs i = standing xs i sorted.1 (omega arith) here in (before_standing x xs i sorted.0 rest, rest)

    all_above : (xs : List X) → AllWithin (λ x. order x e ≡ Greater) xs 0 (length xs) → Above order e xs
    all_above [] all = tt
    all_above (x ∷ xs) all = (all 0 x (omega arith) (omega arith), all_above xs (λ k d low high. all (suc k) d (omega arith) (omega arith)))

    missing : (xs : List X) (i : ℕ) → i ≤ length xs → AllWithin (λ x. order x e ≡ Less) xs 0 i → AllWithin (λ x. order x e ≡ Greater) xs i (length xs) → IsMissingAt order e xs i
    missing xs zero within front rest = all_above xs rest
    missing [] (suc i) within front rest = absurd (omega arith)
    missing (x ∷ xs) (suc i) within front rest = (
      front 0 x (omega arith) (omega arith),
      missing xs i (omega arith) (λ k d low high. front (suc k) d (omega arith) (omega arith)) (λ k d low high. rest (suc k) d (omega arith) (omega arith)),
    )

    adjacent : (xs : List X) → IsStrictlySortedBy order xs → IsSortedBy (λ x y. is_lt (order x y)) xs
    unfolding IsStrictlySortedBy
    adjacent [] sorted k d low high = absurd (omega arith)
    adjacent (x ∷ []) sorted k d low high = absurd (omega arith)
    adjacent (x ∷ y ∷ xs) sorted zero d low high = ap is_lt (turned x y Less sorted.0.0)
    adjacent (x ∷ y ∷ xs) sorted (suc k) d low high =
        let rest : is_lt (order (get_or (y ∷ xs) (k + 1) d) (get_or (y ∷ xs) k d)) ≡ false = adjacent (y ∷ xs) sorted.1 k d (omega arith) (omega arith)
        in rw add-one (rw add-one at rest)

    pub found : (xs : List X) (r : Result ℕ ℕ) → IsStrictlySortedBy order xs → IsSearchInRange r (length xs) → IsBinarySearchResult (λ x. order x e) xs r → MatchResult r (StandsAt order e xs) (IsMissingAt order e xs)
    found xs (Ok i) sorted range answer = standing xs i sorted range answer
    found xs (Err i) sorted range answer =
        let at = answer (searchable_from_sorted total (λ x. x) xs e (adjacent xs sorted))
        in missing xs i range at.0 at.1
