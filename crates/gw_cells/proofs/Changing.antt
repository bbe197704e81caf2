-- One cell that changes, and all others that stay.
use Rattle.std.proofs.Common.{◌≡◌, ◌∙◌, refl, sym, ap, subst, ℕ, ◌<◌, ◌≤◌, arith, Bool, true, false, cond, ◌&&◌, List, ◌∷◌, ◌++◌, length, get_or, set, insert, remove, take, drop, suc, filter, Contains, IsPermutation, bytes_eq, true≢false}
use Rattle.std.proofs.lemmas.List.{drop-set-lt, get_or_default, get_or-set_same, length-set, take-set}
use Rattle.std.proofs.lemmas.List.Elements.{All-contains, All-filter}
use Rattle.std.proofs.lemmas.List.Sorted.{Contains-permutation, IsPermutation-cons, IsPermutation-insert, IsPermutation-remove, IsPermutation-sym, IsPermutation-trans}
use Rattle.std.proofs.lemmas.Slice.Eq.{bytes_eq-Decides}
use Rattle.std.specs.Cmp.{first_so, second_so}
use Rattle.std.specs.List.Sorted.{IsPartitionPoint}
use Rattle.std.specs.Ordering.{ordering_reverse}
use Rattle.std.specs.declared.cmp.Ordering.TheVariants.{Equal}
use Rattle.gw_rows.proofs.Ordered.{is_total}
use Rattle.gw_rows.specs.model.Precedence.{AreOneRow, precedence}
use Rattle.gw_rows.specs.model.Rows.{Row}
use Rattle.gw_cells.proofs.InOrder.{IsAbove, IsBelow, inserted, none_tied, not_there, only_one, removed, replaced}
use Rattle.gw_cells.proofs.Permutations.{permutation_behind}
use Rattle.gw_cells.specs.Changes.{AddsRow, PutsRow, TakesOutRow}
use Rattle.gw_cells.specs.model.Addresses.{Address, address_of, same_address, same_kind, stands_at}
use Rattle.gw_cells.specs.model.Order.{IsApartFrom, IsCellOf, IsInOrder, StandsFor}

-- ---- one cell

-- A row that is put between those that stand before it and those that stand behind.
pub adds_between : (row : Row) (cell : List Row) (at : ℕ) → at ≤ length cell
    → ((rows : List Row) → IsInOrder rows cell → IsPartitionPoint (IsBelow precedence is_total row) (IsAbove precedence is_total row) cell at)
    → AddsRow row cell (insert cell at row)
adds_between row cell at within sides = λ rows apart are. record {
  all = IsPermutation-trans (row ∷ rows) (row ∷ cell) (insert cell at row) (IsPermutation-cons row rows cell are.all) (IsPermutation-insert cell at row);
  ordered = inserted precedence is_total row cell at are.ordered within (sides rows are);
}

-- One that is one row with it isn't there.
pub adds_over : (row : Row) (cell new : List Row) (at : ℕ) → at < length cell → AreOneRow (get_or cell at row) row → AddsRow row cell new
adds_over row cell new at within one = λ rows apart are.
    let there : Contains cell (get_or cell at row) = (at, within, get_or_default cell at (get_or cell at row) row within) in
    let among : Contains rows (get_or cell at row) = Contains-permutation cell rows (get_or cell at row) (IsPermutation-sym rows cell are.all) there in
    absurd (All-contains (λ r. ¬ AreOneRow r row) rows (get_or cell at row) apart among one)

there_in : (row : Row) (rest cell : List Row) → IsInOrder (row ∷ rest) cell → Contains cell row
there_in row rest cell are = Contains-permutation (row ∷ rest) cell row are.all (0, zero_first, refl)
  where
    zero_first : 0 < length (row ∷ rest)
    zero_first = omega arith

pub takes_out_at : (row : Row) (cell : List Row) (at : ℕ) → at < length cell → precedence (get_or cell at row) row ≡ Equal → TakesOutRow row cell (remove cell at)
takes_out_at row cell at within tied = λ rest are.
    let same : row ≡ get_or cell at row = only_one precedence is_total row cell at are.ordered (there_in row rest cell are) within tied in
    record {
      all = permutation_behind row rest (remove cell at)
          (IsPermutation-trans (row ∷ rest) cell (row ∷ remove cell at) are.all (IsPermutation-remove cell at row within same));
      ordered = removed precedence is_total cell at are.ordered;
    }

-- A row that is put over one that precedence doesn't tell from it.
pub puts_over : (row : Row) (cell : List Row) (at : ℕ) → at < length cell → precedence (get_or cell at row) row ≡ Equal → PutsRow row cell (set cell at row)
puts_over row cell at within tied = λ former rest one are.
    let turned : precedence row former ≡ Equal = is_total.antisymm row former ∙ ap ordering_reverse one in
    let both : precedence (get_or cell at former) former ≡ Equal =
    ap (λ (z : Row). precedence z former) (get_or_default cell at former row within) ∙ is_total.congr (get_or cell at row) row former tied ∙ turned in
    let same : former ≡ get_or cell at former = only_one precedence is_total former cell at are.ordered (there_in former rest cell are) within both in
    let others : remove (set cell at row) at ≡ remove cell at =
    ap (λ (l : List Row). l ++ drop (suc at) (set cell at row)) (take-set cell at row)
    ∙ ap (λ (l : List Row). take at cell ++ l) (drop-set-lt (suc at) cell at row (omega arith)) in
    let left : IsPermutation (set cell at row) (row ∷ remove cell at) =
    subst (λ (l : List Row). IsPermutation (set cell at row) (row ∷ l)) others
    (IsPermutation-remove (set cell at row) at row (omega (arith, length-set cell at row)) (sym (get_or-set_same cell at row row within))) in
    let behind : IsPermutation rest (remove cell at) =
    permutation_behind former rest (remove cell at)
    (IsPermutation-trans (former ∷ rest) cell (former ∷ remove cell at) are.all (IsPermutation-remove cell at former within same)) in
    record {
      all = IsPermutation-trans (row ∷ rest) (row ∷ remove cell at) (set cell at row) (IsPermutation-cons row rest (remove cell at) behind)
          (IsPermutation-sym (set cell at row) (row ∷ remove cell at) left);
      ordered = replaced precedence is_total row cell at are.ordered within tied;
    }

-- Where all stand before a row or behind it, there is none that precedence doesn't tell from it.
pub puts_over_none : (row : Row) (cell new : List Row) (at : ℕ)
    → ((rows : List Row) → IsInOrder rows cell → IsPartitionPoint (IsBelow precedence is_total row) (IsAbove precedence is_total row) cell at)
    → PutsRow row cell new
puts_over_none row cell new at sides = λ former rest one are.
    absurd (none_tied precedence is_total row former cell at one (sides (former ∷ rest) are) (there_in former rest cell are))

-- A row that has no place isn't there.
pub is_missing : (row : Row) (cell : List Row) (at : ℕ)
    → ((rest : List Row) → IsInOrder (row ∷ rest) cell → IsPartitionPoint (IsBelow precedence is_total row) (IsAbove precedence is_total row) cell at)
    → (rest : List Row) → IsInOrder (row ∷ rest) cell → ⊥
is_missing row cell at sides rest are = not_there precedence is_total row cell at (sides rest are) (there_in row rest cell are)

-- ---- all cells

abbrev pub address_at : List ℕ → Bool → List ℕ → Address
address_at name is_exact path = record { name = name; place = record { is_exact = is_exact; path = path } }

kinds_same : (b c : Bool) → same_kind b c ≡ true → b ≡ c
kinds_same true c same = sym same
kinds_same false true same = same
kinds_same false false same = refl

same_bytes : (l : List ℕ) → bytes_eq l l ≡ true
same_bytes l = (bytes_eq-Decides l l).1 refl

same_address_is : (a b : Address) → same_address a b ≡ true → a ≡ b
same_address_is a b same =
    let names : a.name ≡ b.name = (bytes_eq-Decides a.name b.name).0 (first_so (bytes_eq a.name b.name) _ same) in
    let rest = second_so (bytes_eq a.name b.name) _ same in
    let kinds : a.place.is_exact ≡ b.place.is_exact = kinds_same a.place.is_exact b.place.is_exact (first_so (same_kind a.place.is_exact b.place.is_exact) _ rest) in
    let paths : a.place.path ≡ b.place.path =
    (bytes_eq-Decides a.place.path b.place.path).0 (second_so (same_kind a.place.is_exact b.place.is_exact) (bytes_eq a.place.path b.place.path) rest) in
    ap (λ (n : List ℕ). address_at n a.place.is_exact a.place.path) names
    ∙ ap (λ (k : Bool). address_at b.name k a.place.path) kinds
    ∙ ap (λ (p : List ℕ). address_at b.name b.place.is_exact p) paths

-- The cell of an address is copied, changed and put back.
pub record IsPutBack (own : Address) (old new : Address → List Row) (before after : Bool → List Row) : Type 0 where
  pub copied : (kind : Bool) → before kind ≡ old (address_at own.name kind own.place.path)
  pub others : (kind : Bool) → same_kind kind own.place.is_exact ≡ false → after kind ≡ before kind
  pub now : (a : Address) → new a ≡ cond (bytes_eq a.name own.name && bytes_eq a.place.path own.place.path) (after a.place.is_exact) (old a)

own_now : (own : Address) (old new : Address → List Row) (before after : Bool → List Row) → IsPutBack own old new before after
    → new own ≡ after own.place.is_exact
own_now own old new before after so =
    so.now own
    ∙ ap (λ (b : Bool). cond (b && bytes_eq own.place.path own.place.path) (after own.place.is_exact) (old own)) (same_bytes own.name)
    ∙ ap (λ (b : Bool). cond b (after own.place.is_exact) (old own)) (same_bytes own.place.path)

others_stay : (own : Address) (old new : Address → List Row) (before after : Bool → List Row) → IsPutBack own old new before after
    → (a : Address) → same_address a own ≡ false → new a ≡ old a
others_stay own old new before after so a apart = so.now a ∙ by (bytes_eq a.name own.name) refl (bytes_eq a.place.path own.place.path) refl
  where
    by : (b : Bool) → bytes_eq a.name own.name ≡ b → (c : Bool) → bytes_eq a.place.path own.place.path ≡ c
        → cond (bytes_eq a.name own.name && bytes_eq a.place.path own.place.path) (after a.place.is_exact) (old a) ≡ old a
    by true e true f =
        let kinds : same_kind a.place.is_exact own.place.is_exact ≡ false = kind (same_kind a.place.is_exact own.place.is_exact) refl in
        let names : own.name ≡ a.name = sym ((bytes_eq-Decides a.name own.name).0 e) in
        let paths : own.place.path ≡ a.place.path = sym ((bytes_eq-Decides a.place.path own.place.path).0 f) in
        rw (e, f) (so.others a.place.is_exact kinds ∙ so.copied a.place.is_exact
        ∙ ap (λ (n : List ℕ). old (address_at n a.place.is_exact own.place.path)) names
        ∙ ap (λ (p : List ℕ). old (address_at a.name a.place.is_exact p)) paths)
      where
        kind : (k : Bool) → same_kind a.place.is_exact own.place.is_exact ≡ k → same_kind a.place.is_exact own.place.is_exact ≡ false
        kind true g =
            let whole : same_address a own ≡ true = rw (e, g, f) refl in
            absurd (true≢false (sym whole ∙ apart))
        kind false g = g
    by true e false f = rw (e, f) refl
    by false e c f = rw e refl

module _ (row : Row) (old new : Address → List Row) (before after : Bool → List Row) (own : Address) (is_own : own ≡ address_of row) (so : IsPutBack own old new before after) where
  stands : (a : Address) → same_address a own ≡ stands_at a row
  stands a = ap (same_address a) is_own

  here : (a : Address) → same_address a own ≡ true → a ≡ own
  here a same = same_address_is a own same

  pub all_add : AddsRow row (before own.place.is_exact) (after own.place.is_exact)
      → (rows : List Row) → IsApartFrom rows row → ((a : Address) → IsCellOf rows a (old a)) → (a : Address) → IsCellOf (row ∷ rows) a (new a)
  all_add adds rows apart are a = by (same_address a own) refl
    where
      by : (b : Bool) → same_address a own ≡ b → IsCellOf (row ∷ rows) a (new a)
      by true e =
          let at_own : stands_at a row ≡ true = sym (stands a) ∙ e in
          let was : before own.place.is_exact ≡ old a = so.copied own.place.is_exact ∙ ap old (sym (here a e)) in
          let now : after own.place.is_exact ≡ new a = sym (own_now own old new before after so) ∙ ap new (sym (here a e)) in
          let more : IsInOrder (row ∷ filter (stands_at a) rows) (new a) =
          subst (IsInOrder (row ∷ filter (stands_at a) rows)) now
          (adds (filter (stands_at a) rows) (All-filter (stands_at a) (λ r. ¬ AreOneRow r row) rows apart) (subst (IsInOrder (filter (stands_at a) rows)) (sym was) (are a))) in
          rw at_own more
      by false e =
          let elsewhere : stands_at a row ≡ false = sym (stands a) ∙ e in
          let still : IsInOrder (filter (stands_at a) rows) (new a) =
          subst (IsInOrder (filter (stands_at a) rows)) (sym (others_stay own old new before after so a e)) (are a) in
          rw elsewhere still

  pub all_put : PutsRow row (before own.place.is_exact) (after own.place.is_exact)
      → (former : Row) (rest : List Row) → StandsFor row former → ((a : Address) → IsCellOf (former ∷ rest) a (old a)) → (a : Address) → IsCellOf (row ∷ rest) a (new a)
  all_put puts former rest stands_for are a = by (same_address a own) refl (are a)
    where
      also : stands_at a former ≡ stands_at a row
      also = ap (same_address a) (sym stands_for.address)

      by : (b : Bool) → same_address a own ≡ b → IsCellOf (former ∷ rest) a (old a) → IsCellOf (row ∷ rest) a (new a)
      by true e is =
          let at_own : stands_at a row ≡ true = sym (stands a) ∙ e in
          let was : before own.place.is_exact ≡ old a = so.copied own.place.is_exact ∙ ap old (sym (here a e)) in
          let now : after own.place.is_exact ≡ new a = sym (own_now own old new before after so) ∙ ap new (sym (here a e)) in
          let whole : IsInOrder (former ∷ filter (stands_at a) rest) (old a) = rw (also ∙ at_own) at is in
          let put : IsInOrder (row ∷ filter (stands_at a) rest) (new a) =
          subst (IsInOrder (row ∷ filter (stands_at a) rest)) now
          (puts former (filter (stands_at a) rest) stands_for.tied (subst (IsInOrder (former ∷ filter (stands_at a) rest)) (sym was) whole)) in
          rw at_own put
      by false e is =
          let elsewhere : stands_at a row ≡ false = sym (stands a) ∙ e in
          let whole : IsInOrder (filter (stands_at a) rest) (old a) = rw (also ∙ elsewhere) at is in
          let still : IsInOrder (filter (stands_at a) rest) (new a) =
          subst (IsInOrder (filter (stands_at a) rest)) (sym (others_stay own old new before after so a e)) whole in
          rw elsewhere still

  pub all_take_out : TakesOutRow row (before own.place.is_exact) (after own.place.is_exact)
      → (rest : List Row) → ((a : Address) → IsCellOf (row ∷ rest) a (old a)) → (a : Address) → IsCellOf rest a (new a)
  all_take_out takes rest are a = by (same_address a own) refl (are a)
    where
      by : (b : Bool) → same_address a own ≡ b → IsCellOf (row ∷ rest) a (old a) → IsCellOf rest a (new a)
      by true e is =
          let at_own : stands_at a row ≡ true = sym (stands a) ∙ e in
          let was : before own.place.is_exact ≡ old a = so.copied own.place.is_exact ∙ ap old (sym (here a e)) in
          let now : after own.place.is_exact ≡ new a = sym (own_now own old new before after so) ∙ ap new (sym (here a e)) in
          let whole : IsInOrder (row ∷ filter (stands_at a) rest) (old a) = rw at_own at is in
          subst (IsInOrder (filter (stands_at a) rest)) now
          (takes (filter (stands_at a) rest) (subst (IsInOrder (row ∷ filter (stands_at a) rest)) (sym was) whole))
      by false e is =
          let elsewhere : stands_at a row ≡ false = sym (stands a) ∙ e in
          let whole : IsInOrder (filter (stands_at a) rest) (old a) = rw elsewhere at is in
          subst (IsInOrder (filter (stands_at a) rest)) (sym (others_stay own old new before after so a e)) whole
