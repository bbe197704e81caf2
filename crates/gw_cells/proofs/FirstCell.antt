-- The foremost of all items is that of the first cell that has any, where what stands in one cell stands before what stands in the later
-- ones.
use Rattle.std.proofs.Common.{◌≡◌, ◌∙◌, refl, sym, ap, Bool, true, false, not, cond, ◌||◌, ◌&&◌, List, [], ◌∷◌, get_or, filter, find, Option, Some, true≢false}
use Rattle.std.specs.Cmp.{IsTotalOrder, first_so, second_so}
use Rattle.std.specs.List.{AllByRecursion, list_any}
use Rattle.std.specs.Option.{option_or}
use Rattle.std.specs.Ordering.{is_lt, ordering_reverse}
use Rattle.std.specs.declared.cmp.Ordering.{Ordering}
use Rattle.std.specs.declared.cmp.Ordering.TheVariants.{Less}
use Rattle.gw_rows.proofs.Foremost.{foremost_one, foremost_step}
use Rattle.gw_rows.specs.Kept.{better_of}
use Rattle.gw_rows.specs.model.Rows.{foremost}
use Rattle.gw_cells.specs.model.Choice.{first_found}

pub or-true : (b : Bool) → (b || true) ≡ true
or-true true = refl
or-true false = refl

-- What passes a filter first passes its test.
head_passes : {T : Type 0} (test : T → Bool) (items : List T) (m : T) (rest : List T) → filter test items ≡ m ∷ rest → test m ≡ true
head_passes test [] m rest e = absurd (cc e)
head_passes {T} test (x ∷ items) m rest e = by (test x) refl (head_passes test items m rest)
  where
    by : (b : Bool) → test x ≡ b → (filter test items ≡ m ∷ rest → test m ≡ true) → test m ≡ true
    by true f more =
        let here : x ∷ filter test items ≡ m ∷ rest = rw f at e in
        let same : x ≡ m = ap (λ (l : List T). get_or l 0 x) here in
        ap test (sym same) ∙ f
    by false f more = more (rw f at e)

module _ {T K : Type 0} (order : T → T → Ordering) (total : IsTotalOrder order) (stands : K → T → Bool) where
  -- Some item stands before this one.
  abbrev behind : List T → T → Bool
  behind items x = list_any (λ other. is_lt (order other x)) items

  -- The item stands in one of these cells.
  abbrev pub in_some : List K → T → Bool
  in_some ks x = list_any (λ k. stands k x) ks

  -- Every item that passes stands in one of these cells.
  abbrev pub AreIn : (T → Bool) → List K → List T → Type 0
  AreIn p ks items = AllByRecursion (λ x. p x ≡ true → in_some ks x ≡ true) items

  -- Of what passes, an item of this cell stands before one of the later cells.
  abbrev pub IsBefore : (T → Bool) → K → List K → Type 0
  IsBefore p k ks = (x y : T) → p x ≡ true → p y ≡ true → stands k x ≡ true → stands k y ≡ false → in_some ks y ≡ true → order x y ≡ Less

  -- The same of each cell.
  abbrev pub AreInTurn : (T → Bool) → List K → Type 0
  AreInTurn p [] = Unit {0}
  AreInTurn p (k ∷ ks) = IsBefore p k ks × AreInTurn p ks

  -- Among some items there is a foremost one.
  has_foremost : (m : T) (rest : List T) → (y : T) × (foremost order (m ∷ rest) ≡ Some y)
  has_foremost m [] = (m, foremost_one order total m)
  has_foremost m (y ∷ rest) =
      let more = has_foremost (better_of order m y) rest in
      (more.0, foremost_step order total m y rest ∙ more.1)

  none_pass : (p : T → Bool) (items : List T) → AreIn p [] items → filter p items ≡ []
  none_pass p [] all = refl
  none_pass p (x ∷ items) all = by (p x) refl (none_pass p items all.1)
    where
      by : (b : Bool) → p x ≡ b → filter p items ≡ [] → filter p (x ∷ items) ≡ []
      by true e more = absurd (true≢false (sym (all.0 e)))
      by false e more = rw e more

  module _ (p : T → Bool) (k : K) (ks : List K) (first : IsBefore p k ks) where
    abbrev here : T → Bool
    here x = stands k x && p x

    left_in : (items : List T) → AreIn p (k ∷ ks) items → filter here items ≡ [] → AreIn p ks items
    left_in [] all none = tt
    left_in (x ∷ items) all none = by (stands k x) refl (p x) refl (left_in items all.1)
      where
        by : (b : Bool) → stands k x ≡ b → (c : Bool) → p x ≡ c → (filter here items ≡ [] → AreIn p ks items) → AreIn p ks (x ∷ items)
        by true e true f more =
            let some : x ∷ filter here items ≡ [] = rw (e, f) at none in
            absurd (cc some)
        by true e false f more = ((λ passes. absurd (true≢false (sym passes ∙ f))), more (rw (e, f) at none))
        by false e c f more = ((λ passes. rw e at (all.0 passes)), more (rw e at none))

    before_later : (x o : T) → p x ≡ true → stands k x ≡ true → p o ≡ true → stands k o ≡ false → in_some (k ∷ ks) o ≡ true → order x o ≡ Less
    before_later x o px sx po so among = first x o px po sx so (rw so at among)

    -- An item of the cell is behind the same, whether all are asked or the cell alone.
    same_behind : (x : T) → p x ≡ true → stands k x ≡ true → (items : List T) → AreIn p (k ∷ ks) items
        → behind (filter p items) x ≡ behind (filter here items) x
    same_behind x px sx [] all = refl
    same_behind x px sx (o ∷ items) all = by (p o) refl (stands k o) refl (same_behind x px sx items all.1)
      where
        by : (b : Bool) → p o ≡ b → (c : Bool) → stands k o ≡ c → behind (filter p items) x ≡ behind (filter here items) x
            → behind (filter p (o ∷ items)) x ≡ behind (filter here (o ∷ items)) x
        by true e true f rest = rw (e, f) (ap (λ (b : Bool). is_lt (order o x) || b) rest)
        by true e false f rest =
            let less : order x o ≡ Less = before_later x o px sx e f (all.0 e) in
            let over : is_lt (order o x) ≡ false = ap is_lt (total.antisymm o x ∙ ap ordering_reverse less) in
            rw (e, f, over) rest
        by false e true f rest = rw (e, f) rest
        by false e false f rest = rw (e, f) rest

    -- What some item of the cell passes, some item passes.
    some_more : (test : T → Bool) (items : List T) → list_any test (filter here items) ≡ true → list_any test (filter p items) ≡ true
    some_more test [] some = some
    some_more test (x ∷ items) some = by (p x) refl (stands k x) refl (some_more test items)
      where
        by : (b : Bool) → p x ≡ b → (c : Bool) → stands k x ≡ c → (list_any test (filter here items) ≡ true → list_any test (filter p items) ≡ true)
            → list_any test (filter p (x ∷ items)) ≡ true
        by true e true f more = rw e (one (test x) refl (rw (e, f) at some))
          where
            one : (b : Bool) → test x ≡ b → (test x || list_any test (filter here items)) ≡ true → (test x || list_any test (filter p items)) ≡ true
            one true g h = rw g refl
            one false g h = rw g (more (rw g at h))
        by true e false f more = rw e (ap (λ (b : Bool). test x || b) (more (rw (e, f) at some)) ∙ or-true (test x))
        by false e true f more = rw e (more (rw (e, f) at some))
        by false e false f more = rw e (more (rw (e, f) at some))

    -- No item of a later cell is the foremost.
    later_behind : (all_items : List T) (m : T) (rest : List T) → filter here all_items ≡ m ∷ rest
        → (x : T) → p x ≡ true → stands k x ≡ false → in_some (k ∷ ks) x ≡ true → behind (filter p all_items) x ≡ true
    later_behind all_items m rest is x px sx among =
        let passes : here m ≡ true = head_passes here all_items m rest is in
        let less : order m x ≡ Less = before_later m x (second_so (stands k m) (p m) passes) (first_so (stands k m) (p m) passes) px sx among in
        let one : behind (m ∷ rest) x ≡ true = rw less refl in
        some_more (λ other. is_lt (order other x)) all_items (ap (λ (l : List T). behind l x) is ∙ one)

    find_alike : (all_items : List T) → AreIn p (k ∷ ks) all_items → (m : T) (rest : List T) → filter here all_items ≡ m ∷ rest
        → (items : List T) → AreIn p (k ∷ ks) items
        → find (λ x. not (behind (filter p all_items) x)) (filter p items) ≡ find (λ x. not (behind (filter here all_items) x)) (filter here items)
    find_alike all_items all m rest is [] each = refl
    find_alike all_items all m rest is (x ∷ items) each = by (p x) refl (stands k x) refl (find_alike all_items all m rest is items each.1)
      where
        by : (b : Bool) → p x ≡ b → (c : Bool) → stands k x ≡ c
            → find (λ y. not (behind (filter p all_items) y)) (filter p items) ≡ find (λ y. not (behind (filter here all_items) y)) (filter here items)
            → find (λ y. not (behind (filter p all_items) y)) (filter p (x ∷ items)) ≡ find (λ y. not (behind (filter here all_items) y)) (filter here (x ∷ items))
        by true e true f more =
            let same = same_behind x e f all_items all in
            rw (e, f) (ap (λ (b : Bool). cond (not b) (Some x) (find (λ y. not (behind (filter p all_items) y)) (filter p items))) same
            ∙ ap (λ (found : Option T). cond (not (behind (filter here all_items) x)) (Some x) found) more)
        by true e false f more =
            let after = later_behind all_items m rest is x e f (each.0 e) in
            rw (e, f) (ap (λ (b : Bool). cond (not b) (Some x) (find (λ y. not (behind (filter p all_items) y)) (filter p items))) after ∙ more)
        by false e true f more = rw (e, f) more
        by false e false f more = rw (e, f) more

  -- The foremost of all that pass, found cell by cell.
  pub first_cell : (p : T → Bool) (ks : List K) (items : List T) → AreIn p ks items → AreInTurn p ks
      → first_found (λ k. foremost order (filter (λ x. stands k x && p x) items)) ks ≡ foremost order (filter p items)
  first_cell p [] items all turns = sym (ap (foremost order) (none_pass p items all))
  first_cell p (k ∷ ks) items all turns = by (filter (λ x. stands k x && p x) items) refl (λ left. first_cell p ks items left turns.1)
    where
      by : (found : List T) → filter (λ x. stands k x && p x) items ≡ found
          → (AreIn p ks items → first_found (λ j. foremost order (filter (λ x. stands j x && p x) items)) ks ≡ foremost order (filter p items))
          → first_found (λ j. foremost order (filter (λ x. stands j x && p x) items)) (k ∷ ks) ≡ foremost order (filter p items)
      by [] is more =
          ap (λ (l : List T). option_or (foremost order l) (first_found (λ j. foremost order (filter (λ x. stands j x && p x) items)) ks)) is
          ∙ more (left_in p k ks turns.0 items all is)
      by (m ∷ rest) is more =
          let one = has_foremost m rest in
          let here : foremost order (filter (λ x. stands k x && p x) items) ≡ Some one.0 = ap (foremost order) is ∙ one.1 in
          ap (λ (o : Option T). option_or o (first_found (λ j. foremost order (filter (λ x. stands j x && p x) items)) ks)) here
          ∙ sym here
          ∙ sym (find_alike p k ks turns.0 items all m rest is items all)
