-- Lists in which each element stands before those behind it.
use Rattle.std.proofs.Common.{◌≡◌, ◌∙◌, refl, sym, ap, subst, ℕ, zero, suc, ◌+◌, ◌<◌, ◌≤◌, arith, Bool, true, false, not, cond, ◌⊎◌, inl, inr, List, [], ◌∷◌, length, get_or, set, insert, remove, take, drop, filter, find, Option, Some, None, All, Contains, IsPermutation, true≢false, zero-le}
use Rattle.std.proofs.lemmas.Bool.{cases_eq, cases_lt}
use Rattle.std.proofs.lemmas.Cmp.{tied_itself}
use Rattle.std.proofs.lemmas.List.{get_or_default}
use Rattle.std.proofs.lemmas.List.Elements.{All-append, All-cons, All-drop, All-from_recursion, All-head, All-nil, All-set, All-take, All-weaker, recursion_from_All}
use Rattle.std.proofs.lemmas.List.Kept.{IsStrictlySortedBy-filter}
use Rattle.std.proofs.lemmas.List.Sorted.{All-permutation, IsPermutation-sym, length_permutation, list_any-IsPermutation}
use Rattle.std.proofs.lemmas.Map.Keys.{Less-from_sorted}
use Rattle.std.specs.Cmp.{IsTotalOrder}
use Rattle.std.specs.List.{AllByRecursion, AllWithin, list_any}
use Rattle.std.specs.List.Sorted.{IsPartitionPoint, IsStrictlySortedBy}
use Rattle.std.specs.Ordering.{is_eq, is_lt, ordering_reverse}
use Rattle.std.specs.declared.cmp.Ordering.{Ordering}
use Rattle.std.specs.declared.cmp.Ordering.TheVariants.{Less, Equal, Greater}
use Rattle.gw_rows.specs.model.Rows.{foremost}
use Rattle.gw_cells.proofs.Permutations.{filter_permutation}

less-equal : (o : Ordering) → o ≡ Less → o ≡ Equal → ⊥
less-equal o less equal = true≢false (sym (ap is_lt less) ∙ ap is_lt equal)

greater-equal : (o : Ordering) → o ≡ Greater → o ≡ Equal → ⊥
greater-equal o greater equal = true≢false (sym (ap is_eq equal) ∙ ap is_eq greater)

module _ {T : Type 0} (order : T → T → Ordering) (total : IsTotalOrder order) where
  abbrev pub IsBelow : T → T → Type 0
  IsBelow x y = order y x ≡ Less

  abbrev pub IsAbove : T → T → Type 0
  IsAbove x y = order y x ≡ Greater

  turned_less : (x y : T) → order x y ≡ Less → order y x ≡ Greater
  turned_less x y less = total.antisymm y x ∙ ap ordering_reverse less

  turned_greater : (x y : T) → order x y ≡ Greater → order y x ≡ Less
  turned_greater x y greater = total.antisymm y x ∙ ap ordering_reverse greater

  -- ---- looking for a place

  -- What stands before one that is below is below too.
  pub below_more : (x : T) (items : List T) (i : ℕ) (y : T) → IsStrictlySortedBy order items → i < length items → y ≡ get_or items i y → order y x ≡ Less
      → AllWithin (IsBelow x) items 0 (i + 1)
  below_more x items i y sorted within at less k d low high = by (cases_eq k i)
    where
      here : get_or items i d ≡ y
      here = get_or_default items i d y within ∙ sym at

      by : (k ≡ i) ⊎ (k ≡ i → ⊥) → order (get_or items k d) x ≡ Less
      by (inl same) = ap (λ (n : ℕ). order (get_or items n d) x) same ∙ ap (λ (z : T). order z x) here ∙ less
      by (inr apart) =
          let before : order (get_or items k d) y ≡ Less = ap (order (get_or items k d)) (sym here) ∙ Less-from_sorted order items k i d sorted (omega arith) within in
          total.trans (get_or items k d) y x before less

  -- What stands behind one that is above is above too.
  pub above_more : (x : T) (items : List T) (i : ℕ) (y : T) → IsStrictlySortedBy order items → i < length items → y ≡ get_or items i y → order y x ≡ Greater
      → AllWithin (IsAbove x) items i (length items)
  above_more x items i y sorted within at greater k d low high = by (cases_eq k i)
    where
      here : get_or items i d ≡ y
      here = get_or_default items i d y within ∙ sym at

      by : (k ≡ i) ⊎ (k ≡ i → ⊥) → order (get_or items k d) x ≡ Greater
      by (inl same) = ap (λ (n : ℕ). order (get_or items n d) x) same ∙ ap (λ (z : T). order z x) here ∙ greater
      by (inr apart) =
          let behind : order y (get_or items k d) ≡ Less =
          ap (λ (z : T). order z (get_or items k d)) (sym here) ∙ Less-from_sorted order items i k d sorted (omega arith) high in
          turned_less x (get_or items k d) (total.trans x y (get_or items k d) (turned_greater y x greater) behind)

  -- ---- a place that is found

  -- Put between what is below and what is above, an element stands in order.
  pub inserted : (x : T) (items : List T) (i : ℕ) → IsStrictlySortedBy order items → i ≤ length items → IsPartitionPoint (IsBelow x) (IsAbove x) items i
      → IsStrictlySortedBy order (insert items i x)
  unfolding IsStrictlySortedBy
  inserted x [] zero sorted within sides = (tt, tt)
  inserted x [] (suc i) sorted within sides = absurd (omega arith)
  inserted x (y ∷ items) zero sorted within sides =
      (recursion_from_All (λ z. order x z ≡ Less) (y ∷ items) (λ k d high. turned_greater (get_or (y ∷ items) k d) x (sides.1 k d zero-le high)), sorted)
  inserted x (y ∷ items) (suc i) sorted within sides =
      let all = All-from_recursion (λ z. order y z ≡ Less) items sorted.0 in
      let first : order y x ≡ Less = sides.0 0 y zero-le (omega arith) in (
        recursion_from_All (λ z. order y z ≡ Less) (insert items i x)
            (All-append (λ z. order y z ≡ Less) (take i items) (x ∷ drop i items) (All-take (λ z. order y z ≡ Less) i items all)
            (All-cons (λ z. order y z ≡ Less) x (drop i items) first (All-drop (λ z. order y z ≡ Less) i items all))),
        inserted x items i sorted.1 (omega arith)
            ((λ k d low high. sides.0 (suc k) d zero-le (omega arith)), (λ k d low high. sides.1 (suc k) d (omega arith) (omega arith))),
      )

  -- Without one of them the others stand in order.
  pub removed : (items : List T) (i : ℕ) → IsStrictlySortedBy order items → IsStrictlySortedBy order (remove items i)
  unfolding IsStrictlySortedBy
  removed [] zero sorted = tt
  removed [] (suc i) sorted = tt
  removed (y ∷ items) zero sorted = sorted.1
  removed (y ∷ items) (suc i) sorted =
      let all = All-from_recursion (λ z. order y z ≡ Less) items sorted.0 in (
        recursion_from_All (λ z. order y z ≡ Less) (remove items i)
            (All-append (λ z. order y z ≡ Less) (take i items) (drop (suc i) items) (All-take (λ z. order y z ≡ Less) i items all)
            (All-drop (λ z. order y z ≡ Less) (suc i) items all)),
        removed items i sorted.1,
      )

  -- An element that is there is the only one that the order doesn't tell from it.
  pub only_one : (x : T) (items : List T) (i : ℕ) → IsStrictlySortedBy order items → Contains items x → i < length items → order (get_or items i x) x ≡ Equal
      → x ≡ get_or items i x
  only_one x items i sorted at_k within tied = by (cases_eq i at_k.0)
    where
      by : (i ≡ at_k.0) ⊎ (i ≡ at_k.0 → ⊥) → x ≡ get_or items i x
      by (inl same) = sym (ap (λ (n : ℕ). get_or items n x) same ∙ at_k.2)
      by (inr apart) = one (cases_lt i at_k.0)
        where
          one : (i < at_k.0) ⊎ (at_k.0 ≤ i) → x ≡ get_or items i x
          one (inl before) =
              let less : order (get_or items i x) x ≡ Less =
              ap (order (get_or items i x)) (sym at_k.2) ∙ Less-from_sorted order items i at_k.0 x sorted before at_k.1 in
              absurd (less-equal (order (get_or items i x) x) less tied)
          one (inr behind) =
              let less : order x (get_or items i x) ≡ Less =
              ap (λ (z : T). order z (get_or items i x)) (sym at_k.2) ∙ Less-from_sorted order items at_k.0 i x sorted (omega arith) within in
              absurd (greater-equal (order (get_or items i x) x) (turned_less x (get_or items i x) less) tied)

  -- In place of one of them, one that the order doesn't tell from it stands in order.
  pub replaced : (x : T) (items : List T) (i : ℕ) → IsStrictlySortedBy order items → i < length items → order (get_or items i x) x ≡ Equal
      → IsStrictlySortedBy order (set items i x)
  unfolding IsStrictlySortedBy
  replaced x [] i sorted within tied = absurd (omega arith)
  replaced x (y ∷ items) zero sorted within tied =
      let all = All-from_recursion (λ z. order y z ≡ Less) items sorted.0 in (
        recursion_from_All (λ z. order x z ≡ Less) items
            (All-weaker (λ z. order y z ≡ Less) (λ z. order x z ≡ Less) (λ z less. sym (total.congr y x z tied) ∙ less) items all),
        sorted.1,
      )
  replaced x (y ∷ items) (suc i) sorted within tied =
      let all = All-from_recursion (λ z. order y z ≡ Less) items sorted.0 in
      let behind : order (get_or items i x) y ≡ Greater = turned_less y (get_or items i x) (all i x (omega arith)) in
      let first : order y x ≡ Less = turned_greater x y (sym (total.congr (get_or items i x) x y tied) ∙ behind) in (
        recursion_from_All (λ z. order y z ≡ Less) (set items i x) (All-set (λ z. order y z ≡ Less) items i x first all),
        replaced x items i sorted.1 (omega arith) tied,
      )

  -- Where all are below or above, none is there that the order doesn't tell from it.
  pub none_tied : (x y : T) (items : List T) (i : ℕ) → order y x ≡ Equal → IsPartitionPoint (IsBelow x) (IsAbove x) items i → Contains items y → ⊥
  none_tied x y items i tied sides at_k = by (cases_lt at_k.0 i)
    where
      same : order (get_or items at_k.0 y) x ≡ Equal
      same = ap (λ (z : T). order z x) at_k.2 ∙ tied

      by : (at_k.0 < i) ⊎ (i ≤ at_k.0) → ⊥
      by (inl before) = less-equal (order (get_or items at_k.0 y) x) (sides.0 at_k.0 y zero-le before) same
      by (inr behind) = greater-equal (order (get_or items at_k.0 y) x) (sides.1 at_k.0 y behind at_k.1) same

  -- So it isn't there itself.
  pub not_there : (x : T) (items : List T) (i : ℕ) → IsPartitionPoint (IsBelow x) (IsAbove x) items i → Contains items x → ⊥
  not_there x items i sides at_k = none_tied x x items i (tied_itself total x) sides at_k

  -- ---- the foremost

  abbrev before : T → T → Bool
  before a b = is_lt (order a b)

  -- None of these stands before it.
  abbrev is_free : List T → T → Bool
  is_free items x = not (list_any (λ other. before other x) items)

  abbrev first_of : List T → Option T
  first_of [] = None
  first_of (x ∷ items) = Some x

  find_alike : (test other : T → Bool) → ((x : T) → test x ≡ other x) → (items : List T) → find test items ≡ find other items
  find_alike test other alike [] = refl
  find_alike test other alike (x ∷ items) =
      ap (λ (b : Bool). cond b (Some x) (find test items)) (alike x)
      ∙ ap (λ (rest : Option T). cond (other x) (Some x) rest) (find_alike test other alike items)

  -- What is found is the first of what passes.
  find_first : (test : T → Bool) (items : List T) → find test items ≡ first_of (filter test items)
  find_first test [] = refl
  find_first test (x ∷ items) = by (test x) refl (find_first test items)
    where
      by : (b : Bool) → test x ≡ b → find test items ≡ first_of (filter test items) → find test (x ∷ items) ≡ first_of (filter test (x ∷ items))
      by true e more = rw e refl
      by false e more = rw e more

  irreflexive : (x : T) → before x x ≡ false
  irreflexive x = ap is_lt (tied_itself total x)

  -- Nothing stands before the first of some that stand in order.
  first_free : (x : T) (items : List T) → AllByRecursion (λ y. order x y ≡ Less) items → list_any (λ other. before other x) items ≡ false
  first_free x [] all = refl
  first_free x (y ∷ items) all = rw (ap is_lt (turned_less x y all.0)) (first_free x items all.1)

  -- Behind it no other is free.
  others_behind : (x : T) (rest items : List T) → AllByRecursion (λ y. order x y ≡ Less) items → filter (is_free (x ∷ rest)) items ≡ []
  others_behind x rest [] all = refl
  others_behind x rest (y ∷ items) all =
      let behind : is_free (x ∷ rest) y ≡ false = rw (ap is_lt all.0) refl in
      rw behind (others_behind x rest items all.1)

  free_alone : (x : T) (items : List T) → AllByRecursion (λ y. order x y ≡ Less) items → filter (is_free (x ∷ items)) (x ∷ items) ≡ x ∷ []
  free_alone x items all =
      let free : is_free (x ∷ items) x ≡ true = rw (irreflexive x, first_free x items all) refl in
      rw free (ap (λ (l : List T). x ∷ l) (others_behind x items items all))

  alone : (x : T) (items : List T) → IsPermutation (x ∷ []) items → items ≡ x ∷ []
  alone x items so = by items (length_permutation (x ∷ []) items so)
      (All-permutation (λ (y : T). y ≡ x) (x ∷ []) items so (All-cons (λ (y : T). y ≡ x) x [] refl (All-nil (λ (y : T). y ≡ x))))
    where
      by : (l : List T) → length l ≡ length (x ∷ []) → All (λ y. y ≡ x) l → l ≡ x ∷ []
      by [] size all = absurd (omega arith)
      by (y ∷ []) size all = ap (λ (z : T). z ∷ []) (All-head (λ (z : T). z ≡ x) y [] all)
      by (y ∷ z ∷ l) size all = absurd (omega arith)

  empty : (items : List T) → IsPermutation [] items → items ≡ []
  empty items so = by items (length_permutation [] items so)
    where
      by : (l : List T) → length l ≡ length {A = T} [] → l ≡ []
      by [] size = refl
      by (y ∷ l) size = absurd (omega arith)

  -- The foremost of some elements is the first of them in order.
  foremost_first : (items ordered : List T) → IsPermutation items ordered → IsStrictlySortedBy order ordered → foremost order items ≡ first_of ordered
  unfolding IsStrictlySortedBy
  foremost_first items [] so sorted = ap (foremost order) (empty items (IsPermutation-sym items [] so))
  foremost_first items (x ∷ rest) so sorted =
      let same : (y : T) → is_free items y ≡ is_free (x ∷ rest) y =
      λ y. ap not (list_any-IsPermutation (λ other. before other y) items (x ∷ rest) so) in
      let one : filter (is_free (x ∷ rest)) items ≡ x ∷ [] =
      alone x (filter (is_free (x ∷ rest)) items)
      (subst (λ (l : List T). IsPermutation l (filter (is_free (x ∷ rest)) items)) (free_alone x rest sorted.0)
      (filter_permutation (is_free (x ∷ rest)) (x ∷ rest) items (IsPermutation-sym items (x ∷ rest) so))) in
      find_alike (is_free items) (is_free (x ∷ rest)) same items
      ∙ find_first (is_free (x ∷ rest)) items
      ∙ ap first_of one

  -- Of elements in order the first that passes is the foremost of all that pass.
  pub first_in_order : (test : T → Bool) (items ordered : List T) → IsPermutation items ordered → IsStrictlySortedBy order ordered
      → find test ordered ≡ foremost order (filter test items)
  first_in_order test items ordered so sorted =
      find_first test ordered
      ∙ sym (foremost_first (filter test items) (filter test ordered) (filter_permutation test items ordered so) (IsStrictlySortedBy-filter order test ordered sorted))
