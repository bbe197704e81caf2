-- What one reason more makes of the list where the place of the key is known, and how that place is found.
use Rattle.std.proofs.Common.{◌≡◌, true, false, Result, Ok, Err, add-one, ℕ, zero, suc, ◌+◌, ◌<◌, ◌≤◌, List, [], ◌∷◌, length, map, None, refl, sym, ap, ◌∙◌, arith, get_or, set, filter, find}
use Rattle.std.specs.List.{AllByRecursion, AllWithin, HoldsAt, insert}
use Rattle.std.specs.Ordering.{is_lt, is_gt}
use Rattle.std.specs.List.Sorted.{IsStrictlySortedBy, IsSortedBy, IsSearchInRange, IsBinarySearchResult}
use Rattle.std.specs.Result.{MatchResult}
use Rattle.std.specs.declared.cmp.Ordering.TheVariants.{Less, Equal, Greater}
use Rattle.std.proofs.lemmas.List.Sorted.{searchable_from_sorted}
use Rattle.gw_text.specs.model.Forms.{is_key}
use Rattle.gw_text.specs.model.Names.{Key, key_order, same_key}
use Rattle.gw_text.proofs.Keys.{key_total, same_from_key, order_from_same, higher_from_lower, lower_from_higher, other_from_lower, other_from_higher, equal_exactly}
use Rattle.gw_decide.specs.Entries.{Entry, IsExplained, AllAbove, AllFormed, StandsAt, IsMissingAt, IsInKeyOrder, noted}
use Rattle.gw_decide.specs.declared.why.Why.{Why}
use Rattle.gw_decide.specs.declared.why.Why.TheVariants.{OtherListener, Hostname, Path, Method, Headers, Query, Preceded, Chosen}
use Rattle.gw_decide.specs.model.Reasons.{further}

-- among higher keys nothing is lower
none_below : (key : Key) (es : List Entry) → AllAbove key es → filter (λ e. is_lt (key_order e.0 key)) es ≡ []
none_below key [] all = refl
none_below key (e ∷ es) all = rw all.0 (none_below key es all.1)

-- all of them are higher
all_above : (key : Key) (es : List Entry) → AllAbove key es → filter (λ e. is_gt (key_order e.0 key)) es ≡ es
all_above key [] all = refl
all_above key (e ∷ es) all = rw all.0 (ap (λ t. e ∷ t) (all_above key es all.1))

-- and none has the key
none_here : (key : Key) (es : List Entry) → AllAbove key es → find (λ e. same_key e.0 key) es ≡ None
none_here key [] all = refl
none_here key (e ∷ es) all = rw (other_from_higher e.0 key all.0) (none_here key es all.1)

-- a lower key is stepped over
noted-lower : (key : Key) (why : Why) (e : Entry) (es : List Entry) → key_order e.0 key ≡ Less → noted (e ∷ es) key why ≡ e ∷ noted es key why
unfolding noted
noted-lower key why e es low = rw (low, other_from_lower e.0 key low) refl

-- the nearest reason doesn't count
further_than_nearest : (why : Why) → further OtherListener why ≡ why
further_than_nearest OtherListener = refl
further_than_nearest Hostname = refl
further_than_nearest Path = refl
further_than_nearest Method = refl
further_than_nearest Headers = refl
further_than_nearest Query = refl
further_than_nearest Preceded = refl
further_than_nearest Chosen = refl

-- where the key is missing, it is put in at its place with the reason
pub noted-missing : (key : Key) (why : Why) (es : List Entry) (i : ℕ) → IsMissingAt key es i → insert es i (key, why) ≡ noted es key why
unfolding noted
noted-missing key why es zero gap = rw (none_below key es gap, all_above key es gap, none_here key es gap, further_than_nearest why) refl
noted-missing key why [] (suc i) gap = absurd gap
noted-missing key why (e ∷ es) (suc i) gap = ap (λ t. e ∷ t) (noted-missing key why es i gap.1) ∙ sym (noted-lower key why e es gap.0)

-- where it stands, the further reason takes the place of the other
pub noted-standing : (key : Key) (why : Why) (es : List Entry) (i : ℕ) (d : Entry) → StandsAt key es i → set es i ((get_or es i d).0, further (get_or es i d).1 why) ≡ noted es key why
unfolding noted
noted-standing key why [] i d place = absurd place
noted-standing key why (e ∷ es) zero d place =
    rw (order_from_same e.0 key place.0, same_from_key e.0 key place.0, none_below key es place.1, all_above key es place.1) (ap (λ k. (k, further e.1 why) ∷ es) place.0)
noted-standing key why (e ∷ es) (suc i) d place = ap (λ t. e ∷ t) (noted-standing key why es i d place.1) ∙ sym (noted-lower key why e es place.0)

all_lower : (key : Key) (es : List Entry) → AllAbove key es → AllByRecursion (λ k. key_order key k ≡ Less) (map (λ e. e.0) es)
all_lower key [] all = tt
all_lower key (e ∷ es) all = (lower_from_higher e.0 key all.0, all_lower key es all.1)

all-insert : (P : Key → Type 0) (x : Entry) (es : List Entry) (i : ℕ) → AllByRecursion P (map (λ e. e.0) es) → P x.0 → AllByRecursion P (map (λ e. e.0) (insert es i x))
all-insert P x es zero all here = (here, all)
all-insert P x [] (suc i) all here = (here, tt)
all-insert P x (e ∷ es) (suc i) all here = (all.0, all-insert P x es i all.1 here)

-- a new key at its place keeps the order
pub ordered-insert : (x : Entry) (es : List Entry) (i : ℕ) → IsInKeyOrder es → IsMissingAt x.0 es i → IsInKeyOrder (insert es i x)
unfolding IsStrictlySortedBy
ordered-insert x es zero order gap = (all_lower x.0 es gap, order)
ordered-insert x [] (suc i) order gap = absurd gap
ordered-insert x (e ∷ es) (suc i) order gap = (all-insert _ x es i order.0 gap.0, ordered-insert x es i order.1 gap.1)

keys-set : (why : Why) (es : List Entry) (i : ℕ) (d : Entry) → map (λ e. e.0) (set es i ((get_or es i d).0, why)) ≡ map (λ e. e.0) es
keys-set why [] i d = refl
keys-set why (e ∷ es) zero d = refl
keys-set why (e ∷ es) (suc i) d = ap (λ t. e.0 ∷ t) (keys-set why es i d)

-- so does another reason
pub ordered-set : (why : Why) (es : List Entry) (i : ℕ) (d : Entry) → IsInKeyOrder es → IsInKeyOrder (set es i ((get_or es i d).0, why))
ordered-set why es i d order = rw (keys-set why es i d) order

-- all keys have their form, after each change of the list
pub formed-insert : (x : Entry) (es : List Entry) (i : ℕ) → AllFormed es → is_key x.0 ≡ true → AllFormed (insert es i x)
formed-insert x es zero keys form = (form, keys)
formed-insert x [] (suc i) keys form = (form, tt)
formed-insert x (e ∷ es) (suc i) keys form = (keys.0, formed-insert x es i keys.1 form)

pub formed-set : (why : Why) (es : List Entry) (i : ℕ) (d : Entry) → AllFormed es → AllFormed (set es i ((get_or es i d).0, why))
formed-set why [] i d keys = tt
formed-set why (e ∷ es) zero d keys = (keys.0, keys.1)
formed-set why (e ∷ es) (suc i) d keys = (keys.0, formed-set why es i d keys.1)

module _ (key : Key) where
  all_above_equal : (k : Key) (es : List Entry) → k ≡ key → AllByRecursion (λ l. key_order k l ≡ Less) (map (λ e. e.0) es) → AllAbove key es
  all_above_equal k [] same all = tt
  all_above_equal k (e ∷ es) same all =
      (higher_from_lower key e.0 (ap (λ m. key_order m e.0) (sym same) ∙ all.0), all_above_equal k es same all.1)

  lower_than_standing : (k : Key) (es : List Entry) (i : ℕ) → AllByRecursion (λ l. key_order k l ≡ Less) (map (λ e. e.0) es) → StandsAt key es i → key_order k key ≡ Less
  lower_than_standing k [] i all place = absurd place
  lower_than_standing k (e ∷ es) zero all place = ap (λ l. key_order k l) (sym place.0) ∙ all.0
  lower_than_standing k (e ∷ es) (suc i) all place = lower_than_standing k es i all.1 place.1

  standing : (es : List Entry) (i : ℕ) → AllFormed es → is_key key ≡ true → IsInKeyOrder es → i < length es → HoldsAt (λ e. key_order e.0 key ≡ Equal) es i → StandsAt key es i
  unfolding IsStrictlySortedBy
  standing [] i keys form order within here = absurd (omega arith)
  standing (e ∷ es) zero keys form order within here =
      let same : e.0 ≡ key = (equal_exactly e.0 key (key_order e.0 key) keys.0 form refl).0 (here e)
      in (same, all_above_equal e.0 es same order.0)
  standing (e ∷ es) (suc i) keys form order within here =
      let rest : StandsAt key es i = standing es i keys.1 form order.1 (omega arith) here
      in (lower_than_standing e.0 es i order.0 rest, rest)

  all_above_within : (es : List Entry) → AllWithin (λ e. key_order e.0 key ≡ Greater) es 0 (length es) → AllAbove key es
  all_above_within [] all = tt
  all_above_within (e ∷ es) all = (all 0 e (omega arith) (omega arith), all_above_within es (λ k d low high. all (suc k) d (omega arith) (omega arith)))

  missing : (es : List Entry) (i : ℕ) → i ≤ length es → AllWithin (λ e. key_order e.0 key ≡ Less) es 0 i → AllWithin (λ e. key_order e.0 key ≡ Greater) es i (length es) → IsMissingAt key es i
  missing es zero within before after = all_above_within es after
  missing [] (suc i) within before after = absurd (omega arith)
  missing (e ∷ es) (suc i) within before after = (
    before 0 e (omega arith) (omega arith),
    missing es i (omega arith) (λ k d low high. before (suc k) d (omega arith) (omega arith)) (λ k d low high. after (suc k) d (omega arith) (omega arith)),
  )

  adjacent : (es : List Entry) → IsInKeyOrder es → IsSortedBy (λ a b. is_lt (key_order a.0 b.0)) es
  unfolding IsStrictlySortedBy
  adjacent [] order k d low high = absurd (omega arith)
  adjacent (a ∷ []) order k d low high = absurd (omega arith)
  adjacent (a ∷ b ∷ es) order zero d low high = ap is_lt (higher_from_lower a.0 b.0 order.0.0)
  adjacent (a ∷ b ∷ es) order (suc k) d low high =
      let rest : is_lt (key_order (get_or (b ∷ es) (k + 1) d).0 (get_or (b ∷ es) k d).0) ≡ false = adjacent (b ∷ es) order.1 k d (omega arith) (omega arith)
      in rw add-one (rw add-one at rest)

  -- what a binary search by the key finds
  pub found : (es : List Entry) (r : Result ℕ ℕ) → AllFormed es → is_key key ≡ true → IsInKeyOrder es → IsSearchInRange r (length es) → IsBinarySearchResult (λ e. key_order e.0 key) es r → MatchResult r (StandsAt key es) (IsMissingAt key es)
  found es (Ok i) keys form order range answer = standing es i keys form order range answer
  found es (Err i) keys form order range answer =
      let at = answer (searchable_from_sorted key_total (λ e. e.0) es key (adjacent es order))
      in missing es i range at.0 at.1

-- no entries are in order
pub nothing_explained : IsExplained []
unfolding IsStrictlySortedBy
nothing_explained = record { order = tt; keys = tt }
