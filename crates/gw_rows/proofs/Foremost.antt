-- The foremost item, found by going through the items one after another.
use Rattle.std.proofs.Common.{◌≡◌, ◌∙◌, refl, sym, ap, subst, ℕ, suc, ◌+◌, ◌<◌, Bool, true, false, not, cond, ◌||◌, List, [], ◌∷◌, ◌++◌, length, get_or, drop, filter, find, add-one, drop-cons, Option, Some, None, true≢false}
use Rattle.std.specs.Cmp.{IsTotalOrder}
use Rattle.std.specs.List.{list_any}
use Rattle.std.specs.Option.{option_to_list}
use Rattle.std.specs.Ordering.{is_lt, ordering_reverse}
use Rattle.std.specs.declared.cmp.Ordering.{Ordering}
use Rattle.std.specs.declared.cmp.Ordering.TheVariants.{Less, Equal, Greater}
use Rattle.gw_rows.specs.Kept.{better_of, kept}
use Rattle.gw_rows.specs.model.Rows.{foremost}

-- Tests that agree find the same.
find_alike : {T : Type 0} → (p q : T → Bool) → ((x : T) → p x ≡ q x) → (items : List T) → find p items ≡ find q items
find_alike p q alike [] = refl
find_alike {T} p q alike (x ∷ items) =
    ap (λ (b : Bool). cond b (Some x) (find p items)) (alike x) ∙ ap (λ (rest : Option T). cond (q x) (Some x) rest) (find_alike p q alike items)

not-false : (b : Bool) → not b ≡ false → b ≡ true
not-false true e = refl
not-false false e = sym e

or-any : (b : Bool) → (b || true) ≡ true
or-any true = refl
or-any false = refl

module _ {T : Type 0} (order : T → T → Ordering) (total : IsTotalOrder order) where
  -- The first item stands before the second.
  abbrev before : T → T → Bool
  before a b = is_lt (order a b)

  -- Some item stands before this one.
  abbrev is_behind : List T → T → Bool
  is_behind items x = list_any (λ other. before other x) items

  is_less : (o : Ordering) → is_lt o ≡ true → o ≡ Less
  is_less Less e = refl
  is_less Equal e = absurd (true≢false (sym e))
  is_less Greater e = absurd (true≢false (sym e))

  -- No item stands before itself.
  irreflexive : (x : T) → before x x ≡ false
  irreflexive x = by (order x x) refl
    where
      by : (o : Ordering) → order x x ≡ o → before x x ≡ false
      by Less e =
          let back : order x x ≡ Greater = total.antisymm x x ∙ ap ordering_reverse e in
          ap is_lt back
      by Equal e = ap is_lt e
      by Greater e = ap is_lt e

  or-same : (b : Bool) → (b || b) ≡ b
  or-same true = refl
  or-same false = refl

  or-none : (b : Bool) → (b || false) ≡ b
  or-none true = refl
  or-none false = refl

  or-assoc : (a b c : Bool) → (a || (b || c)) ≡ ((a || b) || c)
  or-assoc true b c = refl
  or-assoc false b c = refl

  -- What stands behind one of two stands behind the better of them.
  either : (x y z : T) → (before x z || before y z) ≡ before (better_of order x y) z
  either x y z = by (order y x) refl (order y z) refl
    where
      by : (o : Ordering) → order y x ≡ o → (q : Ordering) → order y z ≡ q → (before x z || before y z) ≡ before (better_of order x y) z
      by Less e q g = rw e (less (order x z) refl)
        where
          less : (p : Ordering) → order x z ≡ p → (before x z || before y z) ≡ before y z
          less Less f = rw (f, total.trans y x z e f) refl
          less Equal f = rw f refl
          less Greater f = rw f refl
      by Equal e q g = rw (e, total.congr y x z e) (or-same (before x z))
      by Greater e Less g =
          let back : order x y ≡ Less = total.antisymm x y ∙ ap ordering_reverse e in
          rw (e, g, total.trans x y z back g) refl
      by Greater e Equal g = rw (e, g) (or-none (before x z))
      by Greater e Greater g = rw (e, g) (or-none (before x z))

  -- What stands before an item stands before one behind it, or beside it.
  carried : (x y r : T) → before y x ≡ false → before r x ≡ true → before r y ≡ true
  carried x y r kept h = by (order y x) refl
    where
      less : order r x ≡ Less
      less = is_less (order r x) h

      by : (o : Ordering) → order y x ≡ o → before r y ≡ true
      by Less e = absurd (true≢false (sym (ap is_lt e) ∙ kept))
      by Equal e =
          let over : order x r ≡ Greater = total.antisymm x r ∙ ap ordering_reverse less in
          ap is_lt (total.antisymm r y ∙ ap ordering_reverse (total.congr y x r e ∙ over))
      by Greater e = ap is_lt (total.trans r x y less (total.antisymm x y ∙ ap ordering_reverse e))

  carried_all : (x y : T) (items : List T) → before y x ≡ false → is_behind items x ≡ true → is_behind items y ≡ true
  carried_all x y [] kept h = h
  carried_all x y (r ∷ items) kept h = by (before r x) refl (carried_all x y items kept)
    where
      by : (b : Bool) → before r x ≡ b → (is_behind items x ≡ true → is_behind items y ≡ true) → is_behind (r ∷ items) y ≡ true
      by true e rest = rw (carried x y r kept e) refl
      by false e rest = ap (λ (c : Bool). before r y || c) (rest (rw e at h)) ∙ or-any (before r y)

  -- Nothing stands before the item.
  abbrev is_free : List T → T → Bool
  is_free items x = not (is_behind items x)

  free_alike : (x y : T) (rest : List T) (z : T) → is_free (x ∷ y ∷ rest) z ≡ is_free (better_of order x y ∷ rest) z
  free_alike x y rest z =
      ap not (or-assoc (before x z) (before y z) (is_behind rest z) ∙ ap (λ (b : Bool). b || is_behind rest z) (either x y z))

  -- Of the first two items the better one is enough.
  pub foremost_step : (x y : T) (rest : List T) → foremost order (x ∷ y ∷ rest) ≡ foremost order (better_of order x y ∷ rest)
  foremost_step x y rest =
      find_alike (is_free (x ∷ y ∷ rest)) (is_free (better_of order x y ∷ rest)) (free_alike x y rest) (x ∷ y ∷ rest) ∙ by (before y x) refl
    where
      by : (b : Bool) → before y x ≡ b → find (is_free (better_of order x y ∷ rest)) (x ∷ y ∷ rest) ≡ find (is_free (better_of order x y ∷ rest)) (better_of order x y ∷ rest)
      by true e =
          let now : better_of order x y ≡ y = rw e refl in
          subst (λ (w : T). find (is_free (w ∷ rest)) (x ∷ y ∷ rest) ≡ find (is_free (w ∷ rest)) (w ∷ rest)) (sym now) (skipped e)
        where
          skipped : before y x ≡ true → find (is_free (y ∷ rest)) (x ∷ y ∷ rest) ≡ find (is_free (y ∷ rest)) (y ∷ rest)
          skipped e = rw e refl
      by false e =
          let now : better_of order x y ≡ x = rw e refl in
          subst (λ (w : T). find (is_free (w ∷ rest)) (x ∷ y ∷ rest) ≡ find (is_free (w ∷ rest)) (w ∷ rest)) (sym now) (first (is_free (x ∷ rest) x) refl)
        where
          first : (c : Bool) → is_free (x ∷ rest) x ≡ c → find (is_free (x ∷ rest)) (x ∷ y ∷ rest) ≡ find (is_free (x ∷ rest)) (x ∷ rest)
          first true f = ap (λ (c : Bool). cond c (Some x) (cond (is_free (x ∷ rest) y) (Some y) (find (is_free (x ∷ rest)) rest))) f
              ∙ sym (ap (λ (c : Bool). cond c (Some x) (find (is_free (x ∷ rest)) rest)) f)
          first false f =
              ap (λ (c : Bool). cond c (Some x) (cond (is_free (x ∷ rest) y) (Some y) (find (is_free (x ∷ rest)) rest))) f
              ∙ ap (λ (c : Bool). cond c (Some y) (find (is_free (x ∷ rest)) rest)) none
              ∙ sym (ap (λ (c : Bool). cond c (Some x) (find (is_free (x ∷ rest)) rest)) f)
            where
              behind : is_behind rest x ≡ true
              behind = rw (irreflexive x) at (not-false (is_behind (x ∷ rest) x) f)

              none : is_free (x ∷ rest) y ≡ false
              none = ap not (ap (λ (c : Bool). before x y || c) (carried_all x y rest e behind) ∙ or-any (before x y))

  pub foremost_one : (x : T) → foremost order (x ∷ []) ≡ Some x
  foremost_one x = rw (irreflexive x) refl

  -- A turn of a loop that keeps the best so far.
  pub foremost_more : (test : T → Bool) (best : Option T) (x : T) (rest : List T)
      → foremost order (option_to_list best ++ filter test (x ∷ rest)) ≡ foremost order (option_to_list (kept order test best x) ++ filter test rest)
  foremost_more test None x rest = by (test x) refl
    where
      by : (b : Bool) → test x ≡ b → foremost order (filter test (x ∷ rest)) ≡ foremost order (option_to_list (kept order test None x) ++ filter test rest)
      by true e = rw e refl
      by false e = rw e refl
  foremost_more test (Some best) x rest = by (test x) refl
    where
      by : (b : Bool) → test x ≡ b
          → foremost order (best ∷ filter test (x ∷ rest)) ≡ foremost order (option_to_list (kept order test (Some best) x) ++ filter test rest)
      by true e =
          let here : filter test (x ∷ rest) ≡ x ∷ filter test rest = rw e refl in
          let now : kept order test (Some best) x ≡ Some (better_of order best x) = rw e refl in
          ap (λ (items : List T). foremost order (best ∷ items)) here
          ∙ foremost_step best x (filter test rest)
          ∙ ap (λ (found : Option T). foremost order (option_to_list found ++ filter test rest)) (sym now)
      by false e =
          let here : filter test (x ∷ rest) ≡ filter test rest = rw e refl in
          let now : kept order test (Some best) x ≡ Some best = rw e refl in
          ap (λ (items : List T). foremost order (best ∷ items)) here
          ∙ ap (λ (found : Option T). foremost order (option_to_list found ++ filter test rest)) (sym now)

  pub foremost_turn : (test : T → Bool) (best : Option T) (items : List T) (i : ℕ) (x : T) → i < length items → x ≡ get_or items i x
      → foremost order (option_to_list best ++ filter test (drop i items)) ≡ foremost order (option_to_list (kept order test best x) ++ filter test (drop (i + 1) items))
  foremost_turn test best items i x within is =
      let here : drop i items ≡ x ∷ drop (i + 1) items =
      rw add-one (drop-cons items i x within ∙ ap (λ (y : T). y ∷ drop (suc i) items) (sym is)) in
      ap (λ (rest : List T). foremost order (option_to_list best ++ filter test rest)) here ∙ foremost_more test best x (drop (i + 1) items)

  -- At the end the best is what was looked for.
  pub foremost_end : (best : Option T) → foremost order (option_to_list best ++ []) ≡ best
  foremost_end None = refl
  foremost_end (Some x) = foremost_one x
