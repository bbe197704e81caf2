-- What a put and a removal leave of a table: whatever passes a test that no object of the changed key passes.
use Rattle.std.proofs.Common.{◌≡◌, ◌∙◌, ℕ, zero, suc, ℤ, Bool, true, false, ◌&&◌, ◌||◌, cond, List, [], ◌∷◌, map, filter, find, set, length, Option, None, Some, Result, Ok, Err, refl, sym, ap, subst, inl, inr}
use Rattle.std.specs.List.{AllByRecursion, insert, list_any, count_by}
use Rattle.std.specs.List.Sorted.{IsStrictlySortedBy}
use Rattle.std.specs.Ordering.{is_eq}
use Rattle.std.specs.Result.{MatchResult}
use Rattle.std.specs.declared.cmp.Ordering.{Ordering}
use Rattle.std.specs.declared.cmp.Ordering.TheVariants.{Less, Equal, Greater}
use Rattle.std.proofs.lemmas.List.Sums.{length-filter}
use Rattle.gw_text.proofs.Keys.{higher_from_lower, key_total, lower_from_higher, same_from_key}
use Rattle.gw_text.specs.model.Names.{Key, key_order, same_key}
use Rattle.gw_text.specs.model.References.{first_of}
use Rattle.gw_text.specs.model.Stored.{Stored, objects_of, stored_at, stored_key, put, remove, IsInKeyOrder}
use Rattle.gw_store.proofs.Digests.{known}
use Rattle.gw_store.proofs.Places.{put-missing, put-standing}
use Rattle.gw_store.specs.Table.{AllAbove, StandsAt, IsMissingAt}
use Rattle.gw_deps.proofs.Finding.{alike_missing, alike_standing}
use Rattle.gw_deps.proofs.Replacing.{key_is, put_own}
use Rattle.gw_deps.specs.Indexes.{AreAlike, HasKey, with_next}
use Rattle.gw_untouched.specs.Untouched.{IsTableFor}

-- where the object of a key stands among those of its kind, or else where it would stand
abbrev pub IsPlace : {T : Type 0} → (T → Key) → Key → List (Stored T) → Result ℕ ℕ → Type 0
IsPlace key_of key stored place = MatchResult place (StandsAt key_of key stored) (IsMissingAt key_of key stored)

-- of two choices neither is made
pub neither : (a b : Bool) → (a || b) ≡ false → (a ≡ false) × (b ≡ false)
neither true b e = cc
neither false b e = (refl, e)

pub not_right : (a b : Bool) → a ≡ true → (a && b) ≡ false → b ≡ false
not_right true b is e = e
not_right false b is e = cc

pub find_first : {X : Type 0} (p : X → Bool) (xs : List X) → find p xs ≡ first_of (filter p xs)
find_first p [] = refl
find_first p (x ∷ xs) =
    elim (known (p x)) [
      | inl is ↦ (rw is refl)
      | inr other ↦ (rw other (find_first p xs))
    ]

-- the objects of those that pass are those of the objects that pass
pub filter_objects : {T : Type 0} (p : T → Bool) (xs : List (Stored T)) → filter p (objects_of xs) ≡ objects_of (filter (λ s. p s.object) xs)
filter_objects p [] = refl
filter_objects p (x ∷ xs) =
    elim (known (p x.object)) [
      | inl is ↦ (rw is (ap (λ t. x.object ∷ t) (filter_objects p xs)))
      | inr other ↦ (rw other (filter_objects p xs))
    ]

-- as many pass where the same pass
pub count_same : {T : Type 0} (p : T → Bool) (xs ys : List (Stored T)) → filter (λ s. p s.object) ys ≡ filter (λ s. p s.object) xs → count_by p (objects_of ys) ≡ count_by p (objects_of xs)
count_same p xs ys same =
    sym (length-filter p (objects_of ys))
    ∙ (ap (λ t. length t) (filter_objects p ys ∙ (ap (λ t. objects_of t) same ∙ sym (filter_objects p xs))) ∙ length-filter p (objects_of xs))

module _ {T : Type 0} (key : T → Key) (name : Key) where
  above_equal : (k : Key) (hs : List (Stored T)) → k ≡ name → AllByRecursion (λ l. key_order k l ≡ Less) (map (stored_key key) hs) → AllAbove key name hs
  above_equal k [] same all = tt
  above_equal k (h ∷ hs) same all =
      (higher_from_lower name (key h.object) (ap (λ m. key_order m (key h.object)) (sym same) ∙ all.0), above_equal k hs same all.1)

  above_higher : (k : Key) (hs : List (Stored T)) → key_order k name ≡ Greater → AllByRecursion (λ l. key_order k l ≡ Less) (map (stored_key key) hs) → AllAbove key name hs
  above_higher k [] high all = tt
  above_higher k (h ∷ hs) high all =
      (higher_from_lower name (key h.object) (key_total.trans name k (key h.object) (lower_from_higher k name high) all.0), above_higher k hs high all.1)

  one_on : (h : Stored T) (hs : List (Stored T)) → key_order (key h.object) name ≡ Less → (place : Result ℕ ℕ) → IsPlace key name hs place → (p : Result ℕ ℕ) × IsPlace key name (h ∷ hs) p
  one_on h hs low (Ok i) at = (Ok (suc i), (low, at))
  one_on h hs low (Err i) at = (Err (suc i), (low, at))

  place_here : (h : Stored T) (hs : List (Stored T)) (o : Ordering) → key_order (key h.object) name ≡ o → is_eq o ≡ same_key (key h.object) name
      → AllByRecursion (λ l. key_order (key h.object) l ≡ Less) (map (stored_key key) hs) → (p : Result ℕ ℕ) × IsPlace key name hs p → (p : Result ℕ ℕ) × IsPlace key name (h ∷ hs) p
  place_here h hs Less is same later rest = one_on h hs is rest.0 rest.1
  place_here h hs Equal is same later rest =
      let here : key h.object ≡ name = key_is (key h.object) name (sym same) in (Ok 0, (here, above_equal (key h.object) hs here later))
  place_here h hs Greater is same later rest = (Err 0, (is, above_higher (key h.object) hs is later))

  place_by : (hs : List (Stored T)) → IsStrictlySortedBy key_order (map (stored_key key) hs) → AreAlike key name hs → (p : Result ℕ ℕ) × IsPlace key name hs p
  unfolding IsStrictlySortedBy
  place_by [] order alike = (Err 0, tt)
  place_by (h ∷ hs) order alike =
      place_here h hs (key_order (key h.object) name) refl alike.0 order.0 (place_by hs order.1 alike.1)

  -- the key has a place in a table
  pub place_of : (hs : List (Stored T)) → IsTableFor key name hs → (p : Result ℕ ℕ) × IsPlace key name hs p
  place_of hs table = place_by hs table.order table.alike

module _ {T : Type 0} (key : T → Key) (q : T → Bool) where
  -- an object of this key passes
  abbrev pub own : Key → Stored T → Bool
  own name s = same_key (key s.object) name && q s.object

  abbrev passes : Stored T → Bool
  passes s = q s.object

  filter_set : (name : Key) (hs : List (Stored T)) (i : ℕ) (e : Stored T) → StandsAt key name hs i → list_any (own name) hs ≡ false → q e.object ≡ false → filter passes (set hs i e) ≡ filter passes hs
  filter_set name [] i e stands none new = absurd stands
  filter_set name (h ∷ hs) zero e stands none new =
      let here : q h.object ≡ false = not_right (same_key (key h.object) name) (q h.object) (same_from_key (key h.object) name stands.0) (neither (own name h) (list_any (own name) hs) none).0 in
      rw (new, here) refl
  filter_set name (h ∷ hs) (suc i) e stands none new =
      ap (λ t. cond (q h.object) (h ∷ t) t) (filter_set name hs i e stands.1 (neither (own name h) (list_any (own name) hs) none).1 new)

  filter_insert : (name : Key) (hs : List (Stored T)) (i : ℕ) (e : Stored T) → IsMissingAt key name hs i → q e.object ≡ false → filter passes (insert hs i e) ≡ filter passes hs
  filter_insert name hs zero e gap new = rw new refl
  filter_insert name [] (suc i) e gap new = absurd gap
  filter_insert name (h ∷ hs) (suc i) e gap new = ap (λ t. cond (q h.object) (h ∷ t) t) (filter_insert name hs i e gap.1 new)

  filter_placed : (x : T) (at : ℤ) (hs : List (Stored T)) (p : Result ℕ ℕ) → IsPlace key (key x) hs p → list_any (own (key x)) hs ≡ false → q x ≡ false → filter passes (put key x at hs) ≡ filter passes hs
  filter_placed x at hs (Ok i) place none new =
      ap (λ t. filter passes t) (sym (put-standing key x at hs i (record { object = x; first = at }) place)) ∙ filter_set (key x) hs i _ place none new
  filter_placed x at hs (Err i) place none new =
      ap (λ t. filter passes t) (sym (put-missing key x at hs i place)) ∙ filter_insert (key x) hs i _ place new

  filter_removed : (name : Key) (hs : List (Stored T)) → list_any (own name) hs ≡ false → filter passes (remove key name hs) ≡ filter passes hs
  unfolding remove
  filter_removed name [] none = refl
  filter_removed name (h ∷ hs) none =
      let parts = neither (own name h) (list_any (own name) hs) none in
      elim (known (same_key (key h.object) name)) [
        | inl is ↦ (rw (is, not_right (same_key (key h.object) name) (q h.object) is parts.0) (filter_removed name hs parts.1))
        | inr other ↦ (rw other (ap (λ t. cond (q h.object) (h ∷ t) t) (filter_removed name hs parts.1)))
      ]

  -- what passes a test that the object of the key passes neither before nor after is left as it was
  pub filter_next : (name : Key) (next : Option T) (at : ℤ) (hs : List (Stored T)) (place : Result ℕ ℕ) → HasKey key name next → IsPlace key name hs place → list_any (own name) hs ≡ false
      → list_any (own name) (with_next key name next at hs) ≡ false → filter passes (with_next key name next at hs) ≡ filter passes hs
  filter_next name None at hs place named here none later = filter_removed name hs none
  filter_next name (Some x) at hs place named here none later =
      filter_placed x at hs place (subst (λ n. IsPlace key n hs place) (sym named) here) (subst (λ n. list_any (own n) hs ≡ false) (sym named) none)
      (sym (put_own key q x at hs) ∙ subst (λ n. list_any (own n) (put key x at hs) ≡ false) (sym named) later)

  pub filter_table : (name : Key) (next : Option T) (at : ℤ) (hs : List (Stored T)) → HasKey key name next → IsTableFor key name hs → list_any (own name) hs ≡ false
      → list_any (own name) (with_next key name next at hs) ≡ false → filter passes (with_next key name next at hs) ≡ filter passes hs
  filter_table name next at hs named table = let place = place_of key name hs table in filter_next name next at hs place.0 named place.1

module _ {T : Type 0} (key : T → Key) where
  -- so is what is found by a key that no object of the changed key has
  pub found_next : (k name : Key) (next : Option T) (at : ℤ) (hs : List (Stored T)) (place : Result ℕ ℕ) → HasKey key name next → IsPlace key name hs place
      → list_any (λ s. same_key (key s.object) name && same_key (key s.object) k) hs ≡ false
      → list_any (λ s. same_key (key s.object) name && same_key (key s.object) k) (with_next key name next at hs) ≡ false
      → stored_at key k (with_next key name next at hs) ≡ stored_at key k hs
  found_next k name next at hs place named here none later =
      let q : T → Bool = λ x. same_key (key x) k in
      find_first (λ s. q s.object) (with_next key name next at hs)
      ∙ (ap (λ t. first_of t) (filter_next key q name next at hs place named here none later) ∙ sym (find_first (λ s. q s.object) hs))

  pub found_table : (k name : Key) (next : Option T) (at : ℤ) (hs : List (Stored T)) → HasKey key name next → IsTableFor key name hs
      → list_any (λ s. same_key (key s.object) name && same_key (key s.object) k) hs ≡ false
      → list_any (λ s. same_key (key s.object) name && same_key (key s.object) k) (with_next key name next at hs) ≡ false
      → stored_at key k (with_next key name next at hs) ≡ stored_at key k hs
  found_table k name next at hs named table = let place = place_of key name hs table in found_next k name next at hs place.0 named place.1
