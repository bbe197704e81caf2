-- What a put and a look-up give where the place of the key is known, and how that place is found.
use Rattle.std.proofs.Common.{◌≡◌, true, false, Result, Ok, Err, add-one, ℕ, zero, suc, ◌+◌, ◌<◌, ◌≤◌, ℤ, List, [], ◌∷◌, length, map, None, Some, refl, sym, ap, ◌∙◌, arith, get_or, set, filter, not, nat_eq}
use Rattle.std.specs.List.{AllByRecursion, AllWithin, HoldsAt, insert, slice_get, remove as remove_at}
use Rattle.std.specs.Ordering.{is_lt, is_gt}
use Rattle.std.specs.List.Sorted.{IsStrictlySortedBy, IsSortedBy, IsSearchInRange, IsBinarySearchResult}
use Rattle.std.specs.Result.{MatchResult}
use Rattle.std.specs.declared.cmp.Ordering.TheVariants.{Less, Equal, Greater}
use Rattle.std.proofs.lemmas.Bool.Decides.{nat_tests}
use Rattle.std.proofs.lemmas.List.Sorted.{searchable_from_sorted}
use Rattle.gw_text.specs.model.Forms.{is_key}
use Rattle.gw_text.specs.model.Names.{Key, key_order, same_key}
use Rattle.gw_text.specs.model.Stored.{Stored, stored_key, stored_at, put, remove, IsInKeyOrder}
use Rattle.gw_text.proofs.Keys.{key_total, same_from_key, order_from_same, higher_from_lower, lower_from_higher, other_from_lower, other_from_higher, equal_exactly}
use Rattle.gw_store.specs.Table.{AllAbove, AllKeys, StandsAt, IsMissingAt}

module _ {T : Type 0} (key : T → Key) (name : Key) where
  -- among higher keys nothing is lower
  none_below : (hs : List (Stored T)) → AllAbove key name hs → filter (λ h. is_lt (key_order (key h.object) name)) hs ≡ []
  none_below [] all = refl
  none_below (h ∷ hs) all = rw all.0 (none_below hs all.1)

  -- all of them are higher
  all_above : (hs : List (Stored T)) → AllAbove key name hs → filter (λ h. is_gt (key_order (key h.object) name)) hs ≡ hs
  all_above [] all = refl
  all_above (h ∷ hs) all = rw all.0 (ap (λ t. h ∷ t) (all_above hs all.1))

  -- and none has the key
  none_here : (hs : List (Stored T)) → AllAbove key name hs → stored_at key name hs ≡ None
  none_here [] all = refl
  none_here (h ∷ hs) all = rw (other_from_higher (key h.object) name all.0) (none_here hs all.1)

module _ {T : Type 0} (key : T → Key) where
  -- a put steps over a lower key
  put-lower : (x : T) (h : Stored T) (now : ℤ) (hs : List (Stored T)) → key_order (key h.object) (key x) ≡ Less → put key x now (h ∷ hs) ≡ h ∷ put key x now hs
  unfolding put
  put-lower x h now hs low = rw (low, other_from_lower (key h.object) (key x) low) refl

  -- where the key is missing, a put is an insertion at its place
  pub put-missing : (x : T) (now : ℤ) (hs : List (Stored T)) (i : ℕ) → IsMissingAt key (key x) hs i → insert hs i (record { object = x; first = now }) ≡ put key x now hs
  unfolding put
  put-missing x now hs zero gap = rw (none_below key (key x) hs gap, all_above key (key x) hs gap, none_here key (key x) hs gap) refl
  put-missing x now [] (suc i) gap = absurd gap
  put-missing x now (h ∷ hs) (suc i) gap = ap (λ t. h ∷ t) (put-missing x now hs i gap.1) ∙ sym (put-lower x h now hs gap.0)

  -- where it stands, a put leaves the moment as it was
  pub put-standing : (x : T) (now : ℤ) (hs : List (Stored T)) (i : ℕ) (d : Stored T) → StandsAt key (key x) hs i → set hs i (record { object = x; first = (get_or hs i d).first }) ≡ put key x now hs
  unfolding put
  put-standing x now [] i d place = absurd place
  put-standing x now (h ∷ hs) zero d place =
      rw (order_from_same (key h.object) (key x) place.0, same_from_key (key h.object) (key x) place.0, none_below key (key x) hs place.1, all_above key (key x) hs place.1) refl
  put-standing x now (h ∷ hs) (suc i) d place = ap (λ t. h ∷ t) (put-standing x now hs i d place.1) ∙ sym (put-lower x h now hs place.0)

module _ {T : Type 0} (key : T → Key) where
  all_lower : (x : T) (hs : List (Stored T)) → AllAbove key (key x) hs → AllByRecursion (λ k. key_order (key x) k ≡ Less) (map (stored_key key) hs)
  all_lower x [] all = tt
  all_lower x (h ∷ hs) all = (lower_from_higher (key h.object) (key x) all.0, all_lower x hs all.1)

  all-insert : (P : Key → Type 0) (x : Stored T) (hs : List (Stored T)) (i : ℕ) → AllByRecursion P (map (stored_key key) hs) → P (key x.object) → AllByRecursion P (map (stored_key key) (insert hs i x))
  all-insert P x hs zero all here = (here, all)
  all-insert P x [] (suc i) all here = (here, tt)
  all-insert P x (h ∷ hs) (suc i) all here = (all.0, all-insert P x hs i all.1 here)

  -- a new object at the place of its key keeps the order
  pub ordered-insert : (x : Stored T) (hs : List (Stored T)) (i : ℕ) → IsInKeyOrder key hs → IsMissingAt key (key x.object) hs i → IsInKeyOrder key (insert hs i x)
  unfolding IsStrictlySortedBy
  ordered-insert x hs zero order gap = (all_lower x.object hs gap, order)
  ordered-insert x [] (suc i) order gap = absurd gap
  ordered-insert x (h ∷ hs) (suc i) order gap = (all-insert _ x hs i order.0 gap.0, ordered-insert x hs i order.1 gap.1)

  keys-set : (x : Stored T) (hs : List (Stored T)) (i : ℕ) → StandsAt key (key x.object) hs i → map (stored_key key) (set hs i x) ≡ map (stored_key key) hs
  keys-set x [] i place = absurd place
  keys-set x (h ∷ hs) zero place = ap (λ k. k ∷ map (stored_key key) hs) (sym place.0)
  keys-set x (h ∷ hs) (suc i) place = ap (λ t. key h.object ∷ t) (keys-set x hs i place.1)

  -- so does an object in place of the one of its key
  pub ordered-set : (x : Stored T) (hs : List (Stored T)) (i : ℕ) → IsInKeyOrder key hs → StandsAt key (key x.object) hs i → IsInKeyOrder key (set hs i x)
  ordered-set x hs i order place = rw (keys-set x hs i place) order

module _ {T : Type 0} (key : T → Key) (name : Key) where
  -- what a look-up finds where the key stands
  pub stored-standing : (hs : List (Stored T)) (i : ℕ) (d : Stored T) → StandsAt key name hs i → Some (get_or hs i d) ≡ stored_at key name hs
  stored-standing [] i d place = absurd place
  stored-standing (h ∷ hs) zero d place = rw (same_from_key (key h.object) name place.0) refl
  stored-standing (h ∷ hs) (suc i) d place = rw (other_from_lower (key h.object) name place.0) (stored-standing hs i d place.1)

  -- and where it is missing
  pub stored-missing : (hs : List (Stored T)) (i : ℕ) → IsMissingAt key name hs i → None ≡ stored_at key name hs
  stored-missing hs zero gap = rw (none_here key name hs gap) refl
  stored-missing [] (suc i) gap = absurd gap
  stored-missing (h ∷ hs) (suc i) gap = rw (other_from_lower (key h.object) name gap.0) (stored-missing hs i gap.1)

  all_above_equal : (k : Key) (hs : List (Stored T)) → k ≡ name → AllByRecursion (λ l. key_order k l ≡ Less) (map (stored_key key) hs) → AllAbove key name hs
  all_above_equal k [] same all = tt
  all_above_equal k (h ∷ hs) same all =
      (higher_from_lower name (key h.object) (ap (λ m. key_order m (key h.object)) (sym same) ∙ all.0), all_above_equal k hs same all.1)

  lower_than_standing : (k : Key) (hs : List (Stored T)) (i : ℕ) → AllByRecursion (λ l. key_order k l ≡ Less) (map (stored_key key) hs) → StandsAt key name hs i → key_order k name ≡ Less
  lower_than_standing k [] i all place = absurd place
  lower_than_standing k (h ∷ hs) zero all place = ap (λ l. key_order k l) (sym place.0) ∙ all.0
  lower_than_standing k (h ∷ hs) (suc i) all place = lower_than_standing k hs i all.1 place.1

  standing : (hs : List (Stored T)) (i : ℕ) → AllKeys key hs → is_key name ≡ true → IsInKeyOrder key hs → i < length hs → HoldsAt (λ h. key_order (key h.object) name ≡ Equal) hs i → StandsAt key name hs i
  unfolding IsStrictlySortedBy
  standing [] i keys form order within here = absurd (omega arith)
  standing (h ∷ hs) zero keys form order within here =
      let same : key h.object ≡ name = (equal_exactly (key h.object) name (key_order (key h.object) name) keys.0 form refl).0 (here h)
      in (same, all_above_equal (key h.object) hs same order.0)
  standing (h ∷ hs) (suc i) keys form order within here =
      let rest : StandsAt key name hs i = standing hs i keys.1 form order.1 (omega arith) here
      in (lower_than_standing (key h.object) hs i order.0 rest, rest)

  all_above_within : (hs : List (Stored T)) → AllWithin (λ h. key_order (key h.object) name ≡ Greater) hs 0 (length hs) → AllAbove key name hs
  all_above_within [] all = tt
  all_above_within (h ∷ hs) all = (all 0 h (omega arith) (omega arith), all_above_within hs (λ k d low high. all (suc k) d (omega arith) (omega arith)))

  missing : (hs : List (Stored T)) (i : ℕ) → i ≤ length hs → AllWithin (λ h. key_order (key h.object) name ≡ Less) hs 0 i → AllWithin (λ h. key_order (key h.object) name ≡ Greater) hs i (length hs) → IsMissingAt key name hs i
  missing hs zero within before after = all_above_within hs after
  missing [] (suc i) within before after = absurd (omega arith)
  missing (h ∷ hs) (suc i) within before after = (
    before 0 h (omega arith) (omega arith),
    missing hs i (omega arith) (λ k d low high. before (suc k) d (omega arith) (omega arith)) (λ k d low high. after (suc k) d (omega arith) (omega arith)),
  )

  adjacent : (hs : List (Stored T)) → IsInKeyOrder key hs → IsSortedBy (λ a b. is_lt (key_order (key a.object) (key b.object))) hs
  unfolding IsStrictlySortedBy
  adjacent [] order k d low high = absurd (omega arith)
  adjacent (g ∷ []) order k d low high = absurd (omega arith)
  adjacent (g ∷ h ∷ hs) order zero d low high = ap is_lt (higher_from_lower (key g.object) (key h.object) order.0.0)
  adjacent (g ∷ h ∷ hs) order (suc k) d low high =
      let rest : is_lt (key_order (key (get_or (h ∷ hs) (k + 1) d).object) (key (get_or (h ∷ hs) k d).object)) ≡ false = adjacent (h ∷ hs) order.1 k d (omega arith) (omega arith)
      in rw add-one (rw add-one at rest)

  -- what a binary search by the key finds
  pub found : (hs : List (Stored T)) (r : Result ℕ ℕ) → AllKeys key hs → is_key name ≡ true → IsInKeyOrder key hs → IsSearchInRange r (length hs) → IsBinarySearchResult (λ h. key_order (key h.object) name) hs r → MatchResult r (StandsAt key name hs) (IsMissingAt key name hs)
  found hs (Ok i) keys form order range answer = standing hs i keys form order range answer
  found hs (Err i) keys form order range answer =
      let at = answer (searchable_from_sorted key_total (stored_key key) hs name (adjacent hs order))
      in missing hs i range at.0 at.1

module _ {T : Type 0} (key : T → Key) (name : Key) where
  -- a removal leaves higher keys
  others_above : (hs : List (Stored T)) → AllAbove key name hs → filter (λ h. not (same_key (key h.object) name)) hs ≡ hs
  others_above [] all = refl
  others_above (h ∷ hs) all = rw (other_from_higher (key h.object) name all.0) (ap (λ t. h ∷ t) (others_above hs all.1))

  -- where the key stands, a removal takes away its object
  pub remove-standing : (hs : List (Stored T)) (i : ℕ) → StandsAt key name hs i → remove_at hs i ≡ remove key name hs
  unfolding remove
  remove-standing [] i place = absurd place
  remove-standing (h ∷ hs) zero place = rw (same_from_key (key h.object) name place.0, others_above hs place.1) refl
  remove-standing (h ∷ hs) (suc i) place = rw (other_from_lower (key h.object) name place.0) (ap (λ t. h ∷ t) (remove-standing hs i place.1))

  -- where it is missing, a removal leaves all as it was
  pub remove-missing : (hs : List (Stored T)) (i : ℕ) → IsMissingAt key name hs i → hs ≡ remove key name hs
  unfolding remove
  remove-missing hs zero gap = sym (others_above hs gap)
  remove-missing [] (suc i) gap = absurd gap
  remove-missing (h ∷ hs) (suc i) gap = rw (other_from_lower (key h.object) name gap.0) (ap (λ t. h ∷ t) (remove-missing hs i gap.1))

module _ {T : Type 0} (key : T → Key) where
  all-remove : (P : Key → Type 0) (hs : List (Stored T)) (i : ℕ) → AllByRecursion P (map (stored_key key) hs) → AllByRecursion P (map (stored_key key) (remove_at hs i))
  all-remove P [] zero all = tt
  all-remove P [] (suc i) all = tt
  all-remove P (h ∷ hs) zero all = all.1
  all-remove P (h ∷ hs) (suc i) all = (all.0, all-remove P hs i all.1)

  -- the others keep their order
  pub ordered-remove : (hs : List (Stored T)) (i : ℕ) → IsInKeyOrder key hs → IsInKeyOrder key (remove_at hs i)
  unfolding IsStrictlySortedBy
  ordered-remove [] zero order = tt
  ordered-remove [] (suc i) order = tt
  ordered-remove (h ∷ hs) zero order = order.1
  ordered-remove (h ∷ hs) (suc i) order = (all-remove _ hs i order.0, ordered-remove hs i order.1)

  -- all keys have their form, after each change of the list
  pub keys-insert : (x : Stored T) (hs : List (Stored T)) (i : ℕ) → AllKeys key hs → is_key (key x.object) ≡ true → AllKeys key (insert hs i x)
  keys-insert x hs zero keys form = (form, keys)
  keys-insert x [] (suc i) keys form = (form, tt)
  keys-insert x (h ∷ hs) (suc i) keys form = (keys.0, keys-insert x hs i keys.1 form)

  pub keys_after-set : (x : Stored T) (hs : List (Stored T)) (i : ℕ) → AllKeys key hs → is_key (key x.object) ≡ true → AllKeys key (set hs i x)
  keys_after-set x [] i keys form = tt
  keys_after-set x (h ∷ hs) zero keys form = (form, keys.1)
  keys_after-set x (h ∷ hs) (suc i) keys form = (keys.0, keys_after-set x hs i keys.1 form)

  pub keys-remove : (hs : List (Stored T)) (i : ℕ) → AllKeys key hs → AllKeys key (remove_at hs i)
  keys-remove [] zero keys = tt
  keys-remove [] (suc i) keys = tt
  keys-remove (h ∷ hs) zero keys = keys.1
  keys-remove (h ∷ hs) (suc i) keys = (keys.0, keys-remove hs i keys.1)

module _ {T : Type 0} (key : T → Key) (name : Key) where
  -- among higher keys none is the same
  none_same : (hs : List (Stored T)) (j : ℕ) (d : Stored T) → AllAbove key name hs → j < length hs → same_key (key (get_or hs j d).object) name ≡ false
  none_same [] j d all within = absurd (omega arith)
  none_same (h ∷ hs) zero d all within = other_from_higher (key h.object) name all.0
  none_same (h ∷ hs) (suc j) d all within = none_same hs j d all.1 (omega arith)

  other_than_first : (j : ℕ) → nat_eq 0 (suc j) ≡ false
  other_than_first j = grind (arith, nat_tests)

  first_is_other : (i : ℕ) → nat_eq (suc i) 0 ≡ false
  first_is_other i = grind (arith, nat_tests)

  one_less : (i j : ℕ) → nat_eq i j ≡ nat_eq (suc i) (suc j)
  one_less i j = grind (arith, nat_tests)

  -- the objects of the key are those at its place
  pub same_at : (hs : List (Stored T)) (i j : ℕ) (d : Stored T) → StandsAt key name hs i → j < length hs → same_key (key (get_or hs j d).object) name ≡ nat_eq i j
  same_at [] i j d place within = absurd place
  same_at (h ∷ hs) zero zero d place within = same_from_key (key h.object) name place.0
  same_at (h ∷ hs) zero (suc j) d place within = rw (other_than_first j) (none_same hs j d place.1 (omega arith))
  same_at (h ∷ hs) (suc i) zero d place within = rw (first_is_other i) (other_from_lower (key h.object) name place.0)
  same_at (h ∷ hs) (suc i) (suc j) d place within = rw (← one_less i j) (same_at hs i j d place.1 (omega arith))

  -- and none where it is missing
  pub same_nowhere : (hs : List (Stored T)) (i j : ℕ) (d : Stored T) → IsMissingAt key name hs i → j < length hs → same_key (key (get_or hs j d).object) name ≡ false
  same_nowhere hs zero j d gap within = none_same hs j d gap within
  same_nowhere [] (suc i) j d gap within = absurd gap
  same_nowhere (h ∷ hs) (suc i) zero d gap within = other_from_lower (key h.object) name gap.0
  same_nowhere (h ∷ hs) (suc i) (suc j) d gap within = same_nowhere hs i j d gap.1 (omega arith)

  -- a look-up finds what stands at the place
  pub found_at : (hs : List (Stored T)) (i : ℕ) → StandsAt key name hs i → stored_at key name hs ≡ slice_get hs i
  found_at [] i place = absurd place
  found_at (h ∷ hs) zero place = rw (same_from_key (key h.object) name place.0) refl
  found_at (h ∷ hs) (suc i) place = rw (other_from_lower (key h.object) name place.0) (found_at hs i place.1)

  -- the place is one of the list
  pub stands_within : (hs : List (Stored T)) (i : ℕ) → StandsAt key name hs i → i < length hs
  stands_within [] i place = absurd place
  stands_within (h ∷ hs) zero place = omega arith
  stands_within (h ∷ hs) (suc i) place = let rest = stands_within hs i place.1 in omega arith
