-- What the cells of a listener are of, while the rows of one Route change.
use Rattle.std.proofs.Common.{◌≡◌, ◌∙◌, refl, sym, ap, subst, ℕ, zero, suc, ◌+◌, ◌<◌, arith, List, [], ◌∷◌, ◌++◌, length, get_or, take, drop, All, IsPermutation, append_assoc, append-nil, add-one, drop-cons, None}
use Rattle.std.proofs.lemmas.Grind.{flat_map-append}
use Rattle.std.proofs.lemmas.List.{get_or_default, take-append-drop, take_more}
use Rattle.std.proofs.lemmas.List.Elements.{All-append, All-weaker}
use Rattle.std.proofs.lemmas.List.Sorted.{IsPermutation-append_comm, IsPermutation-append_left}
use Rattle.std.specs.List.{slice_get}
use Rattle.gw_cells.proofs.Held.{AreCellsOf-permutation}
use Rattle.gw_cells.specs.Held.{AreCellsOf}
use Rattle.gw_cells.specs.declared.cells.Cells.{Cells}
use Rattle.gw_cells.specs.model.Order.{IsApartFrom, StandsFor}
use Rattle.gw_rows.specs.model.Precedence.{AreOneRow}
use Rattle.gw_rows.specs.model.Rows.{Row, ServedListener}
use Rattle.gw_match.proofs.Pairs.{all_back, all_front, pairs_back, pairs_front, pairs_head, pairs_moved}
use Rattle.gw_match.specs.Standing.{StandFor}
use Rattle.gw_match.specs.model.Listed.{AreApart, AreOwnRows, AreRowsOf, Listed, rows_in, with_inserted, with_put, without}

turned : (a b : Row) → ¬ AreOneRow a b → ¬ AreOneRow b a
turned a b apart one = apart (record { key = sym one.key; rule = sym one.rule; place = sym one.place; host_place = sym one.host_place })

-- The next is the first of those that are left.
pub next_is : (rows : List Row) (i : ℕ) (row : Row) → i < length rows → row ≡ get_or rows i row → drop i rows ≡ row ∷ drop (i + 1) rows
next_is rows i row within is = rw add-one (drop-cons rows i row within ∙ ap (λ (r : Row). r ∷ drop (suc i) rows) (sym is))

-- Parts of the rows may change places.
pub apart_moved : (xs ys zs : List Row) → AreApart (xs ++ (ys ++ zs)) → AreApart (ys ++ (xs ++ zs))
apart_moved = pairs_moved (λ a b. ¬ AreOneRow a b) turned

pub cells_moved : (xs ys zs : List Row) (cells : Cells) → AreCellsOf (xs ++ (ys ++ zs)) cells → AreCellsOf (ys ++ (xs ++ zs)) cells
cells_moved xs ys zs cells are =
    let moved : IsPermutation ((xs ++ ys) ++ zs) ((ys ++ xs) ++ zs) = IsPermutation-append_left zs (xs ++ ys) (ys ++ xs) (IsPermutation-append_comm xs ys) in
    let so : IsPermutation (xs ++ (ys ++ zs)) (ys ++ (xs ++ zs)) =
    subst (λ (l : List Row). IsPermutation l (ys ++ (xs ++ zs))) (append_assoc xs ys zs)
    (subst (λ (l : List Row). IsPermutation ((xs ++ ys) ++ zs) l) (append_assoc ys xs zs) moved) in
    AreCellsOf-permutation (xs ++ (ys ++ zs)) (ys ++ (xs ++ zs)) cells so are

module _ (rows : List Row) (i : ℕ) (row : Row) (within : i < length rows) (is : row ≡ get_or rows i row) (others : List Row) where
  -- The next is added to those so far, and to all others.
  pub one_more : (cells : Cells) → AreCellsOf (row ∷ (take i rows ++ others)) cells → AreCellsOf (take (i + 1) rows ++ others) cells
  one_more cells are =
      let whole : take (i + 1) rows ++ others ≡ take i rows ++ (row ∷ others) =
      ap (λ (l : List Row). l ++ others) (take_more rows i row within ∙ ap (λ (r : Row). take i rows ++ r ∷ []) (sym is)) ∙ append_assoc (take i rows) (row ∷ []) others in
      subst (λ (l : List Row). AreCellsOf l cells) (sym whole) (cells_moved (row ∷ []) (take i rows) others cells are)

  -- It is apart from them.
  pub apart_from_those_so_far : AreApart (rows ++ others) → IsApartFrom (take i rows ++ others) row
  apart_from_those_so_far apart =
      let later = drop (i + 1) rows in
      let whole : rows ++ others ≡ take i rows ++ ((row ∷ []) ++ (later ++ others)) =
      ap (λ (l : List Row). l ++ others) (sym (take-append-drop i rows) ∙ ap (λ (l : List Row). take i rows ++ l) (next_is rows i row within is))
      ∙ append_assoc (take i rows) (row ∷ later) others in
      let first : AreApart ((row ∷ []) ++ (take i rows ++ (later ++ others))) = apart_moved (take i rows) (row ∷ []) (later ++ others) (subst AreApart whole apart) in
      let all : All (λ r. ¬ AreOneRow row r) (take i rows ++ (later ++ others)) = pairs_head (λ a b. ¬ AreOneRow a b) row (take i rows ++ (later ++ others)) first in
      let front : All (λ r. ¬ AreOneRow row r) (take i rows) = all_front (λ r. ¬ AreOneRow row r) (take i rows) (later ++ others) all in
      let back : All (λ r. ¬ AreOneRow row r) others =
      all_back (λ r. ¬ AreOneRow row r) later others (all_back (λ r. ¬ AreOneRow row r) (take i rows) (later ++ others) all) in
      All-weaker (λ r. ¬ AreOneRow row r) (λ r. ¬ AreOneRow r row) (λ r other. turned row r other) (take i rows ++ others)
      (All-append (λ r. ¬ AreOneRow row r) (take i rows) others front back)

-- The next has the place of the first of the former ones that are left.
module _ (rows : List Row) (i : ℕ) (row : Row) (within : i < length rows) (is : row ≡ get_or rows i row) (former others : List Row) (stand : StandFor rows former) where
  pub next_in_place : (cells new : Cells) → ((f : Row) (rest : List Row) → StandsFor row f → AreCellsOf (f ∷ rest) cells → AreCellsOf (row ∷ rest) new)
      → AreCellsOf (take i rows ++ (drop i former ++ others)) cells → AreCellsOf (take (i + 1) rows ++ (drop (i + 1) former ++ others)) new
  next_in_place cells new put are =
      let f = get_or former i row in
      let size = stand.size in
      let low : i < length former = omega arith in
      let own : f ≡ get_or former i f = get_or_default former i row f low in
      let left = drop (i + 1) former ++ others in
      let all : AreCellsOf (take i rows ++ ((f ∷ []) ++ left)) cells =
      subst (λ (l : List Row). AreCellsOf (take i rows ++ (l ++ others)) cells) (next_is former i f low own) are in
      let stands : StandsFor row f = subst (λ (r : Row). StandsFor r f) (sym is) (stand.each i row within) in
      one_more rows i row within is left new (put f (take i rows ++ left) stands (cells_moved (take i rows) (f ∷ []) left cells all))

-- The rows of a Route, put between others.
module _ (front behind : List (List Row)) (rows : List Row) where
  put_rows : rows_in (front ++ rows ∷ behind) ≡ rows_in front ++ (rows ++ rows_in behind)
  put_rows = flat_map-append (λ (own : List Row). own) front (rows ∷ behind)

  -- They stand apart from the others, where all then do.
  pub apart_where_put : AreApart (rows_in (front ++ rows ∷ behind)) → AreApart (rows ++ (rows_in front ++ rows_in behind))
  apart_where_put apart = apart_moved (rows_in front) rows (rows_in behind) (subst AreApart put_rows apart)

  -- Their cells and those of the others are those of all.
  pub cells_where_put : (cells : Cells) → AreCellsOf (rows ++ (rows_in front ++ rows_in behind)) cells → AreCellsOf (rows_in (front ++ rows ∷ behind)) cells
  cells_where_put cells are =
      subst (λ (l : List Row). AreCellsOf l cells) (sym put_rows) (cells_moved rows (rows_in front) (rows_in behind) cells are)

-- The rows of the next Route, after those of the Routes so far.
module _ (routes : List (List Row)) (i : ℕ) (rows : List Row) (within : i < length routes) (is : rows ≡ get_or routes i rows) where
  here : drop i routes ≡ rows ∷ drop (i + 1) routes
  here = rw add-one (drop-cons routes i rows within ∙ ap (λ (r : List Row). r ∷ drop (suc i) routes) (sym is))

  pub apart_from_routes_so_far : AreApart (rows_in routes) → AreApart (rows ++ rows_in (take i routes))
  apart_from_routes_so_far apart =
      let whole : routes ≡ take i routes ++ rows ∷ drop (i + 1) routes =
      sym (take-append-drop i routes) ∙ ap (λ (l : List (List Row)). take i routes ++ l) here in
      pairs_front (λ a b. ¬ AreOneRow a b) (rows ++ rows_in (take i routes)) (rows_in (drop (i + 1) routes))
      (subst AreApart (sym (append_assoc rows (rows_in (take i routes)) (rows_in (drop (i + 1) routes))))
      (apart_where_put (take i routes) (drop (i + 1) routes) rows (subst (λ (l : List (List Row)). AreApart (rows_in l)) whole apart)))

  pub one_route_more : (cells : Cells) → AreCellsOf (rows ++ rows_in (take i routes)) cells → AreCellsOf (rows_in (take (i + 1) routes)) cells
  one_route_more cells are =
      let whole : take (i + 1) routes ≡ take i routes ++ rows ∷ [] =
      take_more routes i rows within ∙ ap (λ (r : List Row). take i routes ++ r ∷ []) (sym is) in
      subst (λ (l : List (List Row)). AreCellsOf (rows_in l) cells) (sym whole)
      (cells_where_put (take i routes) [] rows cells
      (subst (λ (l : List Row). AreCellsOf (rows ++ l) cells) (sym (append-nil (rows_in (take i routes)))) are))

-- The cells of all Routes are those of the Routes before a place, and of those from there on.
pub cells_of_parts : (routes : List (List Row)) (at : ℕ) (cells : Cells) → AreCellsOf (rows_in routes) cells
    → AreCellsOf (rows_in (take at routes) ++ rows_in (drop at routes)) cells
cells_of_parts routes at cells are =
    subst (λ (l : List Row). AreCellsOf l cells)
    (ap rows_in (sym (take-append-drop at routes)) ∙ flat_map-append (λ (own : List Row). own) (take at routes) (drop at routes)) are

module _ (routes : List (List Row)) (at : ℕ) (within : at < length routes) where
  own : List Row
  own = get_or routes at []

  front : List Row
  front = rows_in (take at routes)

  behind : List Row
  behind = rows_in (drop (at + 1) routes)

  parted : rows_in routes ≡ front ++ (own ++ behind)
  unfolding own front behind
  parted =
      let here : drop at routes ≡ get_or routes at [] ∷ drop (at + 1) routes = rw add-one (drop-cons routes at [] within) in
      ap rows_in (sym (take-append-drop at routes))
      ∙ flat_map-append (λ (rows : List Row). rows) (take at routes) (drop at routes)
      ∙ ap (λ (l : List (List Row)). rows_in (take at routes) ++ rows_in l) here

  left : rows_in (take at routes ++ drop (at + 1) routes) ≡ front ++ behind
  unfolding front behind
  left = flat_map-append (λ (rows : List Row). rows) (take at routes) (drop (at + 1) routes)

  -- The Route of a place has its rows among all.
  pub cells_of_former : (cells : Cells) → AreCellsOf (rows_in routes) cells
      → AreCellsOf (get_or routes at [] ++ (rows_in (take at routes) ++ rows_in (drop (at + 1) routes))) cells
  unfolding own front behind
  cells_of_former cells are = cells_moved front own behind cells (subst (λ (l : List Row). AreCellsOf l cells) parted are)

  -- What is left without it is the listener's, and apart.
  pub left_rows_of : (l : ServedListener) → AreRowsOf l (rows_in routes) → AreRowsOf l (rows_in (take at routes ++ drop (at + 1) routes))
  left_rows_of l are =
      let all : AreOwnRows l (front ++ (own ++ behind)) = subst (AreOwnRows l) parted are.own in
      let back : AreOwnRows l (own ++ behind) = all_back (λ r. r.listener ≡ l.number) front (own ++ behind) all in
      subst (AreRowsOf l) (sym left)
      (record {
        own = All-append (λ r. r.listener ≡ l.number) front behind
            (all_front (λ r. r.listener ≡ l.number) front (own ++ behind) all) (all_back (λ r. r.listener ≡ l.number) own behind back);
        apart = pairs_back (λ a b. ¬ AreOneRow a b) own (front ++ behind) (apart_moved front own behind (subst AreApart parted are.apart));
      })

  pub cells_where_left : (cells : Cells) → AreCellsOf (rows_in (take at routes) ++ rows_in (drop (at + 1) routes)) cells
      → AreCellsOf (rows_in (take at routes ++ drop (at + 1) routes)) cells
  unfolding front behind
  cells_where_left cells are = subst (λ (l : List Row). AreCellsOf l cells) (sym left) are

  -- None of those that are left is one row with another.
  pub left_apart : (l : ServedListener) → AreRowsOf l (rows_in routes) → AreApart (rows_in (take at routes) ++ rows_in (drop (at + 1) routes))
  unfolding front behind
  left_apart l are = subst AreApart left (left_rows_of l are).apart

-- Where no Route has this place, nothing stands there.
pub none_there : (routes : List (List Row)) (at : ℕ) → None ≡ slice_get routes at → [] ≡ get_or routes at []
none_there [] at none = refl
none_there (rows ∷ routes) zero none = absurd (cc none)
none_there (rows ∷ routes) (suc at) none = none_there routes at none

-- What the table of a listener keeps.
abbrev pub Keeps : ServedListener → List (List Row) → Cells → Type 0
Keeps l routes cells = AreRowsOf l (rows_in routes) × AreCellsOf (rows_in routes) cells

-- Where the cells change from those of former rows to those of others.
abbrev pub IsChange : List Row → List Row → Cells → Cells → Type 0
IsChange former rows before after = (others : List Row) → AreCellsOf (former ++ others) before → AreApart (rows ++ others) → AreCellsOf (rows ++ others) after

module _ (self : Listed) (at : ℕ) (before after : Cells) (are : AreCellsOf (rows_in self.routes) before) (listener : ServedListener) (same : listener ≡ self.listener) where
  to_keep : (routes now : List (List Row)) → now ≡ routes → Keeps self.listener routes after → Keeps listener now after
  to_keep routes now is keeps =
      subst (λ (l : ServedListener). Keeps l now after) (sym same) (subst (λ (r : List (List Row)). Keeps self.listener r after) (sym is) keeps)

  pub keeps_where_inserted : (rows handles : List Row) (now : List (List Row)) → handles ≡ rows → now ≡ with_inserted at rows self.routes
      → AreRowsOf self.listener (rows_in (with_inserted at rows self.routes)) → IsChange [] handles before after → Keeps listener now after
  keeps_where_inserted rows handles now own is fit change =
      let made : IsChange [] rows before after = subst (λ (l : List Row). IsChange [] l before after) own change in
      to_keep (with_inserted at rows self.routes) now is (
        fit,
        cells_where_put (take at self.routes) (drop at self.routes) rows after
            (made (rows_in (take at self.routes) ++ rows_in (drop at self.routes)) (cells_of_parts self.routes at before are)
            (apart_where_put (take at self.routes) (drop at self.routes) rows fit.apart)),
      )

  pub keeps_where_put : (rows handles former : List Row) (now : List (List Row)) → at < length self.routes → handles ≡ rows → former ≡ get_or self.routes at []
      → now ≡ with_put at rows self.routes → AreRowsOf self.listener (rows_in (with_put at rows self.routes)) → IsChange former handles before after
      → Keeps listener now after
  keeps_where_put rows handles former now within own had is fit change =
      let made : IsChange (get_or self.routes at []) rows before after =
      subst (λ (l : List Row). IsChange l rows before after) had (subst (λ (l : List Row). IsChange former l before after) own change) in
      to_keep (with_put at rows self.routes) now is (
        fit,
        cells_where_put (take at self.routes) (drop (at + 1) self.routes) rows after
            (made (rows_in (take at self.routes) ++ rows_in (drop (at + 1) self.routes)) (cells_of_former self.routes at within before are)
            (apart_where_put (take at self.routes) (drop (at + 1) self.routes) rows fit.apart)),
      )

  pub keeps_where_left : (former : List Row) (now : List (List Row)) → at < length self.routes → former ≡ get_or self.routes at []
      → now ≡ without at self.routes → AreRowsOf self.listener (rows_in self.routes) → IsChange former [] before after → Keeps listener now after
  keeps_where_left former now within had is fit change =
      let made : IsChange (get_or self.routes at []) [] before after = subst (λ (l : List Row). IsChange l [] before after) had change in
      to_keep (without at self.routes) now is (
        left_rows_of self.routes at within self.listener fit,
        cells_where_left self.routes at within after
            (made (rows_in (take at self.routes) ++ rows_in (drop (at + 1) self.routes)) (cells_of_former self.routes at within before are)
            (left_apart self.routes at within self.listener fit)),
      )
