-- What a search by keys finds, where the key that is found is known to be the one that is looked for.
use Rattle.std.proofs.Common.{◌≡◌, ◌∙◌, ℕ, zero, suc, ◌+◌, ◌<◌, ◌≤◌, List, [], ◌∷◌, length, map, refl, sym, ap, arith, get_or, add-one, true, false}
use Rattle.std.specs.List.{AllByRecursion, AllWithin, HoldsAt}
use Rattle.std.specs.List.Sorted.{IsStrictlySortedBy, IsSortedBy, IsPartitionPoint, IsNonDecreasingBy}
use Rattle.std.specs.Ordering.{is_lt, ordering_index}
use Rattle.std.specs.declared.cmp.Ordering.TheVariants.{Less, Equal, Greater}
use Rattle.std.proofs.lemmas.List.Sorted.{searchable_from_sorted}
use Rattle.gw_text.specs.model.Forms.{is_key}
use Rattle.gw_text.specs.model.Names.{Key, key_order}
use Rattle.gw_text.specs.model.Stored.{Stored, stored_key, IsInKeyOrder}
use Rattle.gw_text.proofs.Keys.{key_total, same_from_key, order_from_same, higher_from_lower, other_from_lower, other_from_higher, equal_exactly}
use Rattle.gw_store.specs.Table.{AllAbove, StandsAt, IsMissingAt}
use Rattle.gw_deps.specs.Indexes.{AreAlike}

module _ {T : Type 0} (key : T → Key) (name : Key) where
  alike_above : (hs : List (Stored T)) → AllAbove key name hs → AreAlike key name hs
  alike_above [] all = tt
  alike_above (h ∷ hs) all = (rw (all.0, other_from_higher (key h.object) name all.0) refl, alike_above hs all.1)

  pub alike_standing : (hs : List (Stored T)) (i : ℕ) → StandsAt key name hs i → AreAlike key name hs
  alike_standing [] i place = absurd place
  alike_standing (h ∷ hs) zero place = (rw (order_from_same (key h.object) name place.0, same_from_key (key h.object) name place.0) refl, alike_above hs place.1)
  alike_standing (h ∷ hs) (suc i) place = (rw (place.0, other_from_lower (key h.object) name place.0) refl, alike_standing hs i place.1)

  pub alike_missing : (hs : List (Stored T)) (i : ℕ) → IsMissingAt key name hs i → AreAlike key name hs
  alike_missing hs zero gap = alike_above hs gap
  alike_missing [] (suc i) gap = absurd gap
  alike_missing (h ∷ hs) (suc i) gap = (rw (gap.0, other_from_lower (key h.object) name gap.0) refl, alike_missing hs i gap.1)

  above_equal : (k : Key) (hs : List (Stored T)) → k ≡ name → AllByRecursion (λ l. key_order k l ≡ Less) (map (stored_key key) hs) → AllAbove key name hs
  above_equal k [] same all = tt
  above_equal k (h ∷ hs) same all =
      (higher_from_lower name (key h.object) (ap (λ m. key_order m (key h.object)) (sym same) ∙ all.0), above_equal k hs same all.1)

  lower_than_standing : (k : Key) (hs : List (Stored T)) (i : ℕ) → AllByRecursion (λ l. key_order k l ≡ Less) (map (stored_key key) hs) → StandsAt key name hs i → key_order k name ≡ Less
  lower_than_standing k [] i all place = absurd place
  lower_than_standing k (h ∷ hs) zero all place = ap (λ l. key_order k l) (sym place.0) ∙ all.0
  lower_than_standing k (h ∷ hs) (suc i) all place = lower_than_standing k hs i all.1 place.1

  pub standing : (hs : List (Stored T)) (i : ℕ) (d : Stored T) → IsInKeyOrder key hs → i < length hs → key (get_or hs i d).object ≡ name → StandsAt key name hs i
  unfolding IsStrictlySortedBy
  standing [] i d order within here = absurd (omega arith)
  standing (h ∷ hs) zero d order within here = (here, above_equal (key h.object) hs here order.0)
  standing (h ∷ hs) (suc i) d order within here =
      let rest : StandsAt key name hs i = standing hs i d order.1 (omega arith) here
      in (lower_than_standing (key h.object) hs i order.0 rest, rest)

  all_above : (hs : List (Stored T)) → AllWithin (λ h. key_order (key h.object) name ≡ Greater) hs 0 (length hs) → AllAbove key name hs
  all_above [] all = tt
  all_above (h ∷ hs) all = (all 0 h (omega arith) (omega arith), all_above hs (λ k d low high. all (suc k) d (omega arith) (omega arith)))

  missing_by : (hs : List (Stored T)) (i : ℕ) → i ≤ length hs → AllWithin (λ h. key_order (key h.object) name ≡ Less) hs 0 i → AllWithin (λ h. key_order (key h.object) name ≡ Greater) hs i (length hs) → IsMissingAt key name hs i
  missing_by hs zero within before after = all_above hs after
  missing_by [] (suc i) within before after = absurd (omega arith)
  missing_by (h ∷ hs) (suc i) within before after = (
    before 0 h (omega arith) (omega arith),
    missing_by hs i (omega arith) (λ k d low high. before (suc k) d (omega arith) (omega arith)) (λ k d low high. after (suc k) d (omega arith) (omega arith)),
  )

  adjacent : (hs : List (Stored T)) → IsInKeyOrder key hs → IsSortedBy (λ a b. is_lt (key_order (key a.object) (key b.object))) hs
  unfolding IsStrictlySortedBy
  adjacent [] order k d low high = absurd (omega arith)
  adjacent (g ∷ []) order k d low high = absurd (omega arith)
  adjacent (g ∷ h ∷ hs) order zero d low high = ap is_lt (higher_from_lower (key g.object) (key h.object) order.0.0)
  adjacent (g ∷ h ∷ hs) order (suc k) d low high =
      let rest : is_lt (key_order (key (get_or (h ∷ hs) (k + 1) d).object) (key (get_or (h ∷ hs) k d).object)) ≡ false = adjacent (h ∷ hs) order.1 k d (omega arith) (omega arith)
      in rw add-one (rw add-one at rest)

  -- the place at which a search finds nothing
  pub missing : (hs : List (Stored T)) (i : ℕ) → IsInKeyOrder key hs → i ≤ length hs
      → (IsNonDecreasingBy (λ h. ordering_index (key_order (key h.object) name)) hs → IsPartitionPoint (λ h. key_order (key h.object) name ≡ Less) (λ h. key_order (key h.object) name ≡ Greater) hs i)
      → IsMissingAt key name hs i
  missing hs i order within answer =
      let at = answer (searchable_from_sorted key_total (stored_key key) hs name (adjacent hs order))
      in missing_by hs i within at.0 at.1

  -- the place of an object that was found, whose key has its form as the one that is looked for has
  pub place_of_found : (hs : List (Stored T)) (i : ℕ) (d : Stored T) → IsInKeyOrder key hs → i < length hs → d ≡ get_or hs i d → is_key (key d.object) ≡ true → is_key name ≡ true
      → HoldsAt (λ h. key_order (key h.object) name ≡ Equal) hs i → StandsAt key name hs i
  place_of_found hs i d order within here form name_form equal =
      let is : key_order (key d.object) name ≡ Equal = ap (λ h. key_order (key h.object) name) here ∙ equal d in
      let same : key d.object ≡ name = (equal_exactly (key d.object) name (key_order (key d.object) name) form name_form refl).0 is in
      standing hs i d order within (ap (λ h. key h.object) (sym here) ∙ same)
