-- The edges of one subject, among all in their order: they follow one another.
use Rattle.std.proofs.Common.{◌≡◌, ◌∙◌, ℕ, zero, suc, ◌≤◌, Bool, true, false, List, [], ◌∷◌, length, take, drop, refl, sym, ap, arith, get_or}
use Rattle.std.specs.List.{AllByRecursion, AllWithin}
use Rattle.std.specs.List.Sorted.{IsStrictlySortedBy, IsPartitionPoint}
use Rattle.std.specs.Ordering.{is_lt, is_eq, ordering_then, ordering_reverse}
use Rattle.std.specs.declared.cmp.Ordering.{Ordering}
use Rattle.std.specs.declared.cmp.Ordering.TheVariants.{Less, Equal, Greater}
use Rattle.std.proofs.lemmas.List.Elements.{filter_agree}
use mathlib.Core.Bool.{true≢false}
use Rattle.gw_text.specs.model.Names.{Key, same_key}
use Rattle.gw_store.proofs.InOrder.{all_weaker}
use Rattle.gw_store.proofs.Namespaces.{Falls, filter_front, filter_past}
use Rattle.gw_deps.specs.Edges.{Edge, name_order, edge_order, of_subject}
use Rattle.gw_deps.specs.Orders.{name_total, name_ties}

not_less : (o : Ordering) → (o ≡ Less → ⊥) → is_lt o ≡ false
not_less Less other = absurd (other refl)
not_less Equal other = refl
not_less Greater other = refl

not_equal : (o : Ordering) → (o ≡ Equal → ⊥) → is_eq o ≡ false
not_equal Less other = refl
not_equal Equal other = absurd (other refl)
not_equal Greater other = refl

lt_not_eq : (o : Ordering) → is_lt o ≡ true → is_eq o ≡ false
lt_not_eq Less low = refl
lt_not_eq Equal low = cc
lt_not_eq Greater low = refl

module _ (a b s : Key) (o : Ordering) where
  lower_too : (ab : Ordering) → name_order a b ≡ ab → ordering_then ab o ≡ Less → name_order b s ≡ Less → name_order a s ≡ Less
  lower_too Less is before low = name_total.trans a b s is low
  lower_too Equal is before low = name_total.congr a b s is ∙ low
  lower_too Greater is before low = cc

  not_lower : is_lt (name_order a s) ≡ false → ordering_then (name_order a b) o ≡ Less → is_lt (name_order b s) ≡ false
  not_lower high before =
      not_less (name_order b s) (λ low. true≢false (sym (ap is_lt (lower_too (name_order a b) refl before low)) ∙ high))

  same_from_after : (ab : Ordering) → name_order a b ≡ ab → ordering_then ab o ≡ Less → name_order b s ≡ Equal → is_lt (name_order a s) ≡ false → is_eq (name_order a s) ≡ true
  same_from_after Less is before same high =
      let low : name_order a s ≡ Less = name_total.antisymm a s ∙ ap ordering_reverse (sym (name_total.congr b s a same) ∙ (name_total.antisymm b a ∙ ap ordering_reverse is))
      in absurd (true≢false (sym (ap is_lt low) ∙ high))
  same_from_after Equal is before same high = ap is_eq (name_total.congr a b s is ∙ same)
  same_from_after Greater is before same high = cc

  past_same : is_lt (name_order a s) ≡ false → is_eq (name_order a s) ≡ false → ordering_then (name_order a b) o ≡ Less → is_eq (name_order b s) ≡ false
  past_same high other before =
      not_equal (name_order b s) (λ same. true≢false (sym (same_from_after (name_order a b) refl before same high) ∙ other))

module _ (s : Key) where
  abbrev pub lower : Edge → Bool
  lower e = is_lt (name_order e.subject s)

  abbrev pub here : Edge → Bool
  here e = is_eq (name_order e.subject s)

  pub lower_falls : (xs : List Edge) → IsStrictlySortedBy edge_order xs → Falls lower xs
  unfolding IsStrictlySortedBy
  lower_falls [] order = tt
  lower_falls (a ∷ xs) order = (
    (λ high. all_weaker (λ b. edge_order a b ≡ Less) (λ b. lower b ≡ false) (λ b before. not_lower a.subject b.subject s (name_order a.dependant b.dependant) high before) xs order.0),
    lower_falls xs order.1,
  )

  pub here_falls : (xs : List Edge) → IsStrictlySortedBy edge_order xs → AllByRecursion (λ e. lower e ≡ false) xs → Falls here xs
  unfolding IsStrictlySortedBy
  here_falls [] order high = tt
  here_falls (a ∷ xs) order high = (
    (λ other. all_weaker (λ b. edge_order a b ≡ Less) (λ b. here b ≡ false) (λ b before. past_same a.subject b.subject s (name_order a.dependant b.dependant) high.0 other before) xs order.0),
    here_falls xs order.1 high.1,
  )

  pub sorted_drop : (xs : List Edge) (i : ℕ) → IsStrictlySortedBy edge_order xs → IsStrictlySortedBy edge_order (drop i xs)
  unfolding IsStrictlySortedBy
  sorted_drop xs zero order = order
  sorted_drop [] (suc i) order = tt
  sorted_drop (a ∷ xs) (suc i) order = sorted_drop xs i order.1

  pub high_rest : (xs : List Edge) (i : ℕ) → AllWithin (λ e. lower e ≡ false) xs i (length xs) → AllByRecursion (λ e. lower e ≡ false) (drop i xs)
  high_rest [] zero rest = tt
  high_rest [] (suc i) rest = tt
  high_rest (a ∷ xs) zero rest = (rest 0 a (omega arith) (omega arith), high_rest xs 0 (λ k d low high. rest (suc k) d (omega arith) (omega arith)))
  high_rest (a ∷ xs) (suc i) rest = high_rest xs i (λ k d low high. rest (suc k) d (omega arith) (omega arith))

  pub found_between : (xs : List Edge) (i j : ℕ) → i ≤ length xs → j ≤ length (drop i xs) →
      IsPartitionPoint (λ e. lower e ≡ true) (λ e. lower e ≡ false) xs i →
      IsPartitionPoint (λ e. here e ≡ true) (λ e. here e ≡ false) (drop i xs) j →
      take j (drop i xs) ≡ of_subject s xs
  found_between xs i j low high first second =
      sym (filter_past here xs i (λ k d l h. lt_not_eq (name_order (get_or xs k d).subject s) (first.0 k d l h)) low ∙ filter_front here (drop i xs) j second.0 second.1 high)
      ∙ filter_agree here (λ e. same_key e.subject s) (λ e. name_ties e.subject s) xs
