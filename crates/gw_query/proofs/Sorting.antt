-- Parameters in the order of their names: which is the first of a name, and where it stands.
use Rattle.std.proofs.Common.{◌≡◌, ◌∙◌, refl, sym, ap, subst, ℕ, zero, suc, ◌<◌, ◌≤◌, Bool, true, false, not, ◌&&◌, cond, List, [], ◌∷◌, length, Option, None, Some, bytes_eq, nat_cmp, option_map, find, filter, arith}
use Rattle.std.proofs.lemmas.List.Sorted.{ranks_by, searchable_from_sorted}
use Rattle.std.proofs.lemmas.Map.Text.{is_eq-slice_cmp}
use Rattle.std.specs.Cmp.{IsStrictWeakOrder}
use Rattle.std.specs.Cmp.Lexicographic.{slice_cmp, nat_list_cmp_total}
use Rattle.std.specs.List.{AllWithin, slice_get, slice_index_or}
use Rattle.std.specs.List.Sorted.{IsNonDecreasingBy, IsPartitionedBy, IsSortedBy, IsStableBy, ties}
use Rattle.std.specs.Ordering.{is_eq, is_lt, ordering_index, ordering_reverse}
use Rattle.std.specs.declared.cmp.Ordering.{Ordering}
use Rattle.std.specs.declared.cmp.Ordering.TheVariants.{Less, Equal, Greater}
use Rattle.gw_query.specs.model.Parameters.{Parameter, first_value}
use Rattle.gw_query.specs.Sorted.{if_named, is_before}

pub by_name : IsStrictWeakOrder is_before
by_name = ranks_by nat_list_cmp_total (λ (p : Parameter). p.name)

abbrev named : List ℕ → Parameter → Bool
named name p = bytes_eq p.name name

-- Neither before the other: they have one name.
neither : (o : Ordering) → (not (is_lt (ordering_reverse o)) && not (is_lt o)) ≡ is_eq o
neither Less = refl
neither Equal = refl
neither Greater = refl

one_name : (name : List ℕ) (p : Parameter) → ties is_before (record { name = name; value = [] }) p ≡ named name p
one_name name p =
    ap (λ (o : Ordering). not (is_lt o) && not (is_lt (slice_cmp nat_cmp p.name name))) (nat_list_cmp_total.antisymm name p.name)
    ∙ (neither (slice_cmp nat_cmp p.name name) ∙ is_eq-slice_cmp p.name name)

abbrev first_of : List Parameter → Option Parameter
first_of [] = None
first_of (p ∷ ps) = Some p

found_first : (test : Parameter → Bool) (ps : List Parameter) → find test ps ≡ first_of (filter test ps)
found_first test [] = refl
found_first test (p ∷ ps) =
    elim (test p) as (λ b. cond b (Some p) (find test ps) ≡ first_of (cond b (p ∷ filter test ps) (filter test ps))) [ true ↦ refl | false ↦ found_first test ps ]

-- A sort that keeps the order of those of one name keeps the first one.
pub same_first : (parameters sorted : List Parameter) → IsStableBy is_before parameters sorted → (name : List ℕ) → first_value name sorted ≡ first_value name parameters
same_first parameters sorted stable name =
    let like : Parameter = record { name = name; value = [] } in
    let tests : ties is_before like ≡ named name = λ i p. one_name name p i in
    let same : filter (named name) sorted ≡ filter (named name) parameters =
    subst (λ (test : Parameter → Bool). filter test sorted ≡ filter test parameters) tests (stable like) in
    ap (option_map (λ (p : Parameter). p.value)) (found_first (named name) sorted ∙ (ap first_of same ∙ sym (found_first (named name) parameters)))

-- How a parameter's name stands to this one.
abbrev to_name : List ℕ → Parameter → Ordering
to_name name p = slice_cmp nat_cmp p.name name

abbrev pub is_lower : List ℕ → Parameter → Bool
is_lower name p = is_lt (to_name name p)

rises : (name : List ℕ) (ps : List Parameter) → IsSortedBy is_before ps → IsNonDecreasingBy (λ p. ordering_index (to_name name p)) ps
rises name ps ascend = searchable_from_sorted nat_list_cmp_total (λ (p : Parameter). p.name) ps name ascend

lower_too : (o later : Ordering) → ordering_index o ≤ ordering_index later → is_lt later ≡ true → is_lt o ≡ true
lower_too Less later up low = refl
lower_too Equal Less up low = absurd (omega arith)
lower_too Greater Less up low = absurd (omega arith)
lower_too Equal Equal up low = low
lower_too Equal Greater up low = low
lower_too Greater Equal up low = low
lower_too Greater Greater up low = low

pub parted : (name : List ℕ) (ps : List Parameter) → IsSortedBy is_before ps → IsPartitionedBy (is_lower name) ps
parted name ps ascend = λ i j d up within low. lower_too _ _ (rises name ps ascend i j d up within) low

-- A name that is lower or higher is another one.
other_name : (name : List ℕ) (p : Parameter) (o : Ordering) → to_name name p ≡ o → (o ≡ Equal → ⊥) → named name p ≡ false
other_name name p Less is other = sym (is_eq-slice_cmp p.name name) ∙ ap is_eq is
other_name name p Equal is other = absurd (other refl)
other_name name p Greater is other = sym (is_eq-slice_cmp p.name name) ∙ ap is_eq is

lower_other : (o : Ordering) → is_lt o ≡ true → o ≡ Equal → ⊥
lower_other Less low is = cc
lower_other Equal low is = cc
lower_other Greater low is = cc

higher_other : (o : Ordering) → 2 ≤ ordering_index o → o ≡ Equal → ⊥
higher_other Less high is = omega arith
higher_other Equal high is = omega arith
higher_other Greater high is = cc

-- One that isn't lower, and has another name, is higher.
higher : (o : Ordering) → is_lt o ≡ false → is_eq o ≡ false → 2 ≤ ordering_index o
higher Less high other = cc
higher Equal high other = cc
higher Greater high other = omega arith

none_higher : (name : List ℕ) (ps : List Parameter) → ((k : ℕ) (d : Parameter) → k < length ps → 2 ≤ ordering_index (to_name name (slice_index_or ps k d))) → find (named name) ps ≡ None
none_higher name [] high = refl
none_higher name (p ∷ ps) high =
    rw (other_name name p (to_name name p) refl (higher_other (to_name name p) (high 0 p (omega arith))))
    (none_higher name ps (λ k d within. high (suc k) d (omega arith)))

-- The first of a name stands where the lower names end, if it is there.
found_at : (name : List ℕ) (ps : List Parameter) (i : ℕ) → IsNonDecreasingBy (λ p. ordering_index (to_name name p)) ps
    → AllWithin (λ p. is_lower name p ≡ true) ps 0 i → AllWithin (λ p. is_lower name p ≡ false) ps i (length ps)
    → find (named name) ps ≡ if_named name (slice_get ps i)
found_at name [] i up low high = refl
found_at name (p ∷ ps) zero up low high = by (named name p) refl
  where
    by : (b : Bool) → named name p ≡ b → find (named name) (p ∷ ps) ≡ if_named name (Some p)
    by true is = rw is refl
    by false is =
        let behind : 2 ≤ ordering_index (to_name name p) = higher (to_name name p) (high 0 p (omega arith) (omega arith)) (is_eq-slice_cmp p.name name ∙ is) in
        rw is (none_higher name ps (λ k d within. let more = up 0 (suc k) d (omega arith) (omega arith) in omega arith))
found_at name (p ∷ ps) (suc i) up low high =
    rw (other_name name p (to_name name p) refl (lower_other (to_name name p) (low 0 p (omega arith) (omega arith))))
    (found_at name ps i (λ k j d order within. up (suc k) (suc j) d (omega arith) (omega arith))
    (λ k d from to. low (suc k) d (omega arith) (omega arith)) (λ k d from to. high (suc k) d (omega arith) (omega arith)))

pub value_found : (name : List ℕ) (ps : List Parameter) (i : ℕ) → IsSortedBy is_before ps
    → AllWithin (λ p. is_lower name p ≡ true) ps 0 i → AllWithin (λ p. is_lower name p ≡ false) ps i (length ps)
    → option_map (λ (p : Parameter). p.value) (if_named name (slice_get ps i)) ≡ first_value name ps
value_found name ps i ascend low high = ap (option_map (λ (p : Parameter). p.value)) (sym (found_at name ps i (rises name ps ascend) low high))
