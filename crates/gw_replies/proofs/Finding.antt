-- A name is found among others by their order in lower case.
use Rattle.std.proofs.Common.{◌≡◌, ◌∙◌, ◌<◌, ℕ, zero, suc, true, false, List, [], ◌∷◌, Bor, Result, Ok, Err, length, map, refl, sym, ap, arith}
use Rattle.std.specs.Cmp.Lexicographic.{slice_cmp}
use Rattle.std.specs.List.{AllWithin, HoldsAt, list_any}
use Rattle.std.specs.List.Sorted.{IsBinarySearchResult, IsSearchInRange}
use Rattle.std.specs.Ordering.{is_eq, nat_cmp, ordering_reverse}
use Rattle.std.specs.Result.{is_ok}
use Rattle.std.specs.declared.cmp.Ordering.{Ordering}
use Rattle.std.specs.declared.cmp.Ordering.TheVariants.{Less, Equal, Greater}
use Rattle.std.proofs.Math.Bool.{or-true}
use Rattle.std.proofs.lemmas.Cmp.{nat_list_cmp_total}
use Rattle.std.proofs.lemmas.List.Sorted.{searchable_from_sorted}
use Rattle.std.proofs.lemmas.Map.Text.{is_eq-slice_cmp}
use Rattle.gw_text.specs.model.Fields.{same_field_name}
use Rattle.gw_messages.specs.model.Values.{lower}
use Rattle.gw_replies.specs.Options.{IsInOrder}

eq_reversed : (r : Ordering) → is_eq (ordering_reverse r) ≡ is_eq r
eq_reversed Less = refl
eq_reversed Equal = refl
eq_reversed Greater = refl

module _ (word : List ℕ) where
  -- where a name stands beside the word
  abbrev pub beside : Bor (List ℕ) → Ordering
  beside name = slice_cmp nat_cmp (lower name.now) (lower word)

  -- it is the word exactly where it stands neither before it nor behind it
  same_by : (name : Bor (List ℕ)) (r : Ordering) → beside name ≡ r → same_field_name word name.now ≡ is_eq r
  same_by name r is =
      sym (is_eq-slice_cmp (lower word) (lower name.now))
      ∙ ap is_eq (nat_list_cmp_total.antisymm (lower word) (lower name.now) ∙ ap ordering_reverse is)
      ∙ eq_reversed r

  none : (names : List (Bor (List ℕ))) (i : ℕ) → AllWithin (λ n. beside n ≡ Less) names 0 i → AllWithin (λ n. beside n ≡ Greater) names i (length names) → list_any (same_field_name word) (map (λ n. n.now) names) ≡ false
  none [] i before behind = refl
  none (n ∷ names) zero before behind =
      rw (same_by n Greater (behind 0 n (omega arith) (omega arith)))
      (none names zero (λ k d low high. absurd (omega arith)) (λ k d low high. behind (suc k) d (omega arith) (omega arith)))
  none (n ∷ names) (suc i) before behind =
      rw (same_by n Less (before 0 n (omega arith) (omega arith)))
      (none names i (λ k d low high. before (suc k) d (omega arith) (omega arith)) (λ k d low high. behind (suc k) d (omega arith) (omega arith)))

  some : (names : List (Bor (List ℕ))) (i : ℕ) → i < length names → HoldsAt (λ n. beside n ≡ Equal) names i → list_any (same_field_name word) (map (λ n. n.now) names) ≡ true
  some [] i within here = absurd (omega arith)
  some (n ∷ names) zero within here = rw (same_by n Equal (here n)) refl
  some (n ∷ names) (suc i) within here = rw (some names i (omega arith) here) (or-true _)

  -- what a binary search answers
  pub found : (names : List (Bor (List ℕ))) (r : Result ℕ ℕ) → IsInOrder names → IsSearchInRange r (length names) → IsBinarySearchResult beside names r → is_ok r ≡ list_any (same_field_name word) (map (λ n. n.now) names)
  found names (Ok i) order range answer = sym (some names i range answer)
  found names (Err i) order range answer =
      let at = answer (searchable_from_sorted nat_list_cmp_total (λ n. lower n.now) names (lower word) order) in
      sym (none names i at.0 at.1)
