-- Cells of some rows are those of the same rows in another order.
use Rattle.std.proofs.Common.{◌≡◌, ◌∙◌, sym, ap, subst, ℕ, ◌+◌, ◌<◌, arith, List, [], ◌∷◌, ◌++◌, length, length-take, get_or, take, filter, AllPairs, IsPermutation}
use Rattle.std.proofs.lemmas.List.{get_or-take, get_or_default, take_more}
use Rattle.std.proofs.lemmas.List.Sorted.{IsPermutation-sym, IsPermutation-to_front, IsPermutation-trans}
use Rattle.gw_rows.specs.model.Precedence.{AreOneRow}
use Rattle.gw_rows.specs.model.Rows.{Row}
use Rattle.gw_cells.proofs.Permutations.{filter_permutation}
use Rattle.gw_cells.specs.Cells.{at_name}
use Rattle.gw_cells.specs.Held.{AreCellsOf}
use Rattle.gw_cells.specs.declared.cells.Cells.{Cells}
use Rattle.gw_cells.specs.model.Addresses.{stands_at}
use Rattle.gw_cells.specs.model.Order.{IsApartFrom}

pub AreCellsOf-permutation : (rows others : List Row) (cells : Cells) → IsPermutation rows others → AreCellsOf rows cells → AreCellsOf others cells
AreCellsOf-permutation rows others cells so are = λ a. record {
  all = IsPermutation-trans (filter (stands_at a) others) (filter (stands_at a) rows) (at_name cells.names a.name a.place)
      (IsPermutation-sym (filter (stands_at a) rows) (filter (stands_at a) others) (filter_permutation (stands_at a) rows others so)) (are a).all;
  ordered = (are a).ordered;
}

module _ (rows : List Row) (i : ℕ) (row : Row) (within : i < length rows) (at : row ≡ get_or rows i row) where
  -- The next row is added to those before it.
  pub one_more : (cells : Cells) → AreCellsOf (row ∷ take i rows) cells → AreCellsOf (take (i + 1) rows) cells
  one_more cells are =
      let whole : take (i + 1) rows ≡ take i rows ++ row ∷ [] = take_more rows i row within ∙ ap (λ (r : Row). take i rows ++ r ∷ []) (sym at) in
      let moved : IsPermutation (row ∷ take i rows) (take i rows ++ row ∷ []) =
      IsPermutation-sym (take i rows ++ row ∷ []) (row ∷ take i rows) (IsPermutation-to_front (take i rows) row) in
      AreCellsOf-permutation (row ∷ take i rows) (take (i + 1) rows) cells (subst (IsPermutation (row ∷ take i rows)) (sym whole) moved) are

  pub apart_so_far : AllPairs (λ a b. ¬ AreOneRow a b) rows → IsApartFrom (take i rows) row
  apart_so_far apart k d low one =
      let less : k < i = omega (arith, length-take i rows) in
      let first : get_or (take i rows) k d ≡ get_or rows k d = get_or-take i rows k d less in
      let second : get_or rows i d ≡ row = get_or_default rows i d row within ∙ sym at in
      apart k i d less within (subst (λ (r : Row). AreOneRow (get_or rows k d) r) (sym second) (subst (λ (r : Row). AreOneRow r row) first one))
