-- Items gone through one after another: each counts where none before it is the same.
use Rattle.std.proofs.Common.{◌≡◌, ◌∙◌, refl, sym, ap, ℕ, suc, ◌+◌, ◌<◌, Bool, true, false, not, cond, ◌||◌, ◌&&◌, List, [], ◌∷◌, ◌++◌, length, get_or, take, drop, filter, add-one, drop-cons}
use native.Mathlib.Omega.{arith}
use Rattle.std.proofs.Math.Bool.{or-false, or-true}
use Rattle.std.proofs.lemmas.List.{take_more}
use Rattle.std.proofs.lemmas.List.Elements.{filter-append}
use Rattle.std.proofs.lemmas.List.Folds.{list_any-append}
use Rattle.std.specs.List.{list_all, list_any}
use Rattle.gw_rows.specs.model.Rows.{first_of_each}

module _ {T : Type 0} (same : T → T → Bool) where
  -- No item before is the same.
  abbrev pub is_new_to : List T → T → Bool
  is_new_to before x = not (list_any (λ b. same b x) before)

  -- What is left of the first items, behind these.
  abbrev pub left_of : List T → List T → List T
  left_of before items = filter (is_new_to before) (first_of_each same items)

  all_new : (items : List T) → filter (is_new_to []) items ≡ items
  all_new [] = refl
  all_new (x ∷ items) = ap (λ (rest : List T). x ∷ rest) (all_new items)

  -- At the start all are left.
  pub left_at_start : (items : List T) → left_of [] items ≡ first_of_each same items
  left_at_start items = all_new (first_of_each same items)

  -- The items that aren't the same as this one.
  abbrev others : T → List T → List T
  others x items = filter (λ o. not (same x o)) items

  -- With one item more, those that are the same aren't new.
  new_to_more : (before : List T) (x : T) (items : List T) → filter (is_new_to before) (others x items) ≡ filter (is_new_to (before ++ x ∷ [])) items
  new_to_more before x [] = refl
  new_to_more before x (y ∷ items) = by (same x y) refl (new_to_more before x items)
    where
      by : (b : Bool) → same x y ≡ b → filter (is_new_to before) (others x items) ≡ filter (is_new_to (before ++ x ∷ [])) items
          → filter (is_new_to before) (others x (y ∷ items)) ≡ filter (is_new_to (before ++ x ∷ [])) (y ∷ items)
      by true e rest = rw (e, list_any-append (λ (b : T). same b y) before (x ∷ []), e, or-true) rest
      by false e rest = rw (e, list_any-append (λ (b : T). same b y) before (x ∷ []), e, or-false, rest) refl

  -- The item that comes next, and what is left behind it.
  left_step : (before : List T) (x : T) (items : List T) → left_of before (x ∷ items) ≡ filter (is_new_to before) (x ∷ []) ++ left_of (before ++ x ∷ []) items
  left_step before x items =
      filter-append (is_new_to before) (x ∷ []) (others x (first_of_each same items))
      ∙ ap (λ (rest : List T). filter (is_new_to before) (x ∷ []) ++ rest) (new_to_more before x (first_of_each same items))

  -- The same at a place of a list.
  pub left_more : (items : List T) (i : ℕ) (x : T) → i < length items → x ≡ get_or items i x
      → left_of (take i items) (drop i items) ≡ filter (is_new_to (take i items)) (x ∷ []) ++ left_of (take (i + 1) items) (drop (i + 1) items)
  left_more items i x within is =
      let here : drop i items ≡ x ∷ drop (i + 1) items =
      rw add-one (drop-cons items i x within ∙ ap (λ (y : T). y ∷ drop (suc i) items) (sym is)) in
      let next : take i items ++ x ∷ [] ≡ take (i + 1) items =
      ap (λ (y : T). take i items ++ y ∷ []) is ∙ sym (take_more items i x within) in
      ap (left_of (take i items)) here
      ∙ left_step (take i items) x (drop (i + 1) items)
      ∙ ap (λ (before : List T). filter (is_new_to (take i items)) (x ∷ []) ++ left_of before (drop (i + 1) items)) next

  -- Whether a test holds of what is left: of the next item, unless it is repeated, and of the rest.
  pub all_more : (test : T → Bool) (items : List T) (i : ℕ) (x : T) → i < length items → x ≡ get_or items i x
      → list_all test (left_of (take i items) (drop i items))
      ≡ ((test x || list_any (λ b. same b x) (take i items)) && list_all test (left_of (take (i + 1) items) (drop (i + 1) items)))
  all_more test items i x within is = ap (list_all test) (left_more items i x within is) ∙ by (list_any (λ b. same b x) (take i items)) refl
    where
      rest : List T
      rest = left_of (take (i + 1) items) (drop (i + 1) items)

      by : (b : Bool) → list_any (λ b. same b x) (take i items) ≡ b
          → list_all test (filter (is_new_to (take i items)) (x ∷ []) ++ rest) ≡ ((test x || list_any (λ b. same b x) (take i items)) && list_all test rest)
      by true e = rw (e, or-true) refl
      by false e = rw (e, or-false) refl

  -- How many are left: one more where the next item isn't repeated.
  pub count_more : (items : List T) (i : ℕ) (x : T) → i < length items → x ≡ get_or items i x
      → length (left_of (take i items) (drop i items))
      ≡ cond (list_any (λ b. same b x) (take i items)) 0 1 + length (left_of (take (i + 1) items) (drop (i + 1) items))
  count_more items i x within is = ap length (left_more items i x within is) ∙ by (list_any (λ b. same b x) (take i items)) refl
    where
      rest : List T
      rest = left_of (take (i + 1) items) (drop (i + 1) items)

      by : (b : Bool) → list_any (λ b. same b x) (take i items) ≡ b
          → length (filter (is_new_to (take i items)) (x ∷ []) ++ rest) ≡ cond (list_any (λ b. same b x) (take i items)) 0 1 + length rest
      by true e = rw e (omega arith)
      by false e = rw e (omega arith)

  -- The count at the start, and after a turn.
  pub count_start : (items : List T) → 0 + length (left_of [] items) ≡ length (first_of_each same items)
  count_start items =
      let same_length = ap length (left_at_start items) in
      omega arith

  pub count_turn : (items : List T) (i : ℕ) (x : T) (now total : ℕ) → i < length items → x ≡ get_or items i x
      → now + length (left_of (take i items) (drop i items)) ≡ total
      → now + cond (list_any (λ b. same b x) (take i items)) 0 1 + length (left_of (take (i + 1) items) (drop (i + 1) items)) ≡ total
  count_turn items i x now total within is before =
      let more = count_more items i x within is in
      omega arith
