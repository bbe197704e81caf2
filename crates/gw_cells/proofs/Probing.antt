-- What is found first, name by name and place by place, is the row that serves the request.
use Rattle.std.proofs.Common.{◌≡◌, ◌∙◌, refl, sym, ap, ℕ, zero, suc, ◌<◌, ◌≤◌, arith, Bool, true, false, ◌||◌, ◌&&◌, ◌==◌, List, [], ◌∷◌, filter, length, take, map, true≢false, Option, bytes_eq, length-take}
use Rattle.std.proofs.lemmas.Slice.Eq.{bytes_eq-Decides}
use Rattle.std.specs.Cmp.{first_so, second_so}
use Rattle.std.specs.List.{AllByRecursion, list_any}
use Rattle.std.specs.Option.{option_or}
use Rattle.std.specs.declared.cmp.Ordering.TheVariants.{Less}
use Rattle.gw_frames.specs.model.Requests.{Request}
use Rattle.gw_path.proofs.Elements.{prefix-bytes}
use Rattle.gw_rows.proofs.Ordered.{is_total}
use Rattle.gw_rows.specs.model.Fitting.{fits}
use Rattle.gw_rows.specs.model.Precedence.{is_exact_type, precedence}
use Rattle.gw_rows.specs.model.Rows.{Row, foremost}
use Rattle.gw_text.specs.declared.types.PathMatchType.{PathMatchType}
use Rattle.gw_text.specs.declared.types.PathMatchType.TheVariants as path_types
use Rattle.gw_text.specs.model.Matches.{PathMatch, path_fits}
use Rattle.gw_text.specs.model.Paths.{BeginsWithPrefix, without_slash}
use Rattle.gw_cells.proofs.FirstCell.{AreInTurn, IsBefore, first_cell, in_some}
use Rattle.gw_cells.proofs.Names.{above_shorter, above_within, host_fits, longer_before, name_probed, one_name}
use Rattle.gw_cells.proofs.Deciding.{AreTied, by_exact, by_length}
use Rattle.gw_cells.proofs.InOrder.{first_in_order}
use Rattle.gw_cells.proofs.Places.{longer_value, path_match_fits, place_probed}
use Rattle.gw_cells.specs.Cells.{first_fit, found_by_name, found_by_place}
use Rattle.gw_cells.specs.model.Addresses.{DOT, Place, name_of, place_of, same_place, stands_at}
use Rattle.gw_cells.specs.model.Choice.{first_found}
use Rattle.gw_cells.specs.model.Order.{IsCellOf}
use Rattle.gw_cells.specs.model.Probes.{fronts, is_slash_at, names_above, names_for, places_for, prefix_place}

-- Places that are looked at alike give the same.
pub found_alike : {P T : Type 0} (look other : P → Option T) → ((p : P) → look p ≡ other p) → (places : List P) → first_found look places ≡ first_found other places
found_alike look other alike [] = refl
found_alike {P} {T} look other alike (p ∷ places) =
    ap (λ (o : Option T). option_or o (first_found look places)) (alike p)
    ∙ ap (λ (o : Option T). option_or (other p) o) (found_alike look other alike places)

-- Tests that agree keep the same.
pub filter_alike : {T : Type 0} (test other : T → Bool) → ((x : T) → test x ≡ other x) → (items : List T) → filter test items ≡ filter other items
filter_alike test other alike [] = refl
filter_alike {T} test other alike (x ∷ items) = by (other x) refl (filter_alike test other alike items)
  where
    by : (b : Bool) → other x ≡ b → filter test items ≡ filter other items → filter test (x ∷ items) ≡ filter other (x ∷ items)
    by true e more =
        let same : test x ≡ true = alike x ∙ e in
        rw (same, e) (ap (λ (rest : List T). x ∷ rest) more)
    by false e more =
        let same : test x ≡ false = alike x ∙ e in
        rw (same, e) more

-- What is kept of what was kept passes both tests.
filter_twice : {T : Type 0} (test other : T → Bool) (items : List T) → filter test (filter other items) ≡ filter (λ x. other x && test x) items
filter_twice test other [] = refl
filter_twice {T} test other (x ∷ items) = by (other x) refl (test x) refl (filter_twice test other items)
  where
    by : (b : Bool) → other x ≡ b → (c : Bool) → test x ≡ c → filter test (filter other items) ≡ filter (λ y. other y && test y) items
        → filter test (filter other (x ∷ items)) ≡ filter (λ y. other y && test y) (x ∷ items)
    by true e true f more = rw (e, f) (ap (λ (rest : List T). x ∷ rest) more)
    by true e false f more = rw (e, f) more
    by false e c f more = rw e more

-- What holds of every item holds of each.
each_of : {T : Type 0} (P : T → Type 0) → ((x : T) → P x) → (items : List T) → AllByRecursion P items
each_of P all [] = tt
each_of P all (x ∷ items) = (all x, each_of P all items)

reordered : (a b c : Bool) → ((a && b) && c) ≡ (b && (a && c))
reordered true b c = refl
reordered false true c = refl
reordered false false c = refl

-- ---- paths

-- A place of a prefix is that of a match which isn't exact.
prefix_is : (path : List ℕ) (m : PathMatch) → same_place (prefix_place path) (place_of m) ≡ true → (is_exact_type m.sort ≡ false) × (path ≡ without_slash m.value)
prefix_is path m same = by (is_exact_type m.sort) refl
  where
    by : (b : Bool) → is_exact_type m.sort ≡ b → (is_exact_type m.sort ≡ false) × (path ≡ without_slash m.value)
    by true e = absurd (true≢false (sym (rw e at same)))
    by false e = (e, (bytes_eq-Decides path (without_slash m.value)).0 (rw e at same))

exact_is : (path : List ℕ) (m : PathMatch) → same_place (record { is_exact = true; path = path }) (place_of m) ≡ true → is_exact_type m.sort ≡ true
exact_is path m same = by (is_exact_type m.sort) refl
  where
    by : (b : Bool) → is_exact_type m.sort ≡ b → is_exact_type m.sort ≡ true
    by true e = e
    by false e = absurd (true≢false (sym (rw e at same)))

-- At the places of prefixes stand matches that aren't exact.
prefixes_only : (paths : List (List ℕ)) (m : PathMatch) → list_any (λ k. same_place k (place_of m)) (map prefix_place paths) ≡ true → is_exact_type m.sort ≡ false
prefixes_only [] m among = absurd (true≢false (sym among))
prefixes_only (path ∷ paths) m among = by (same_place (prefix_place path) (place_of m)) refl (prefixes_only paths m)
  where
    by : (b : Bool) → same_place (prefix_place path) (place_of m) ≡ b
        → (list_any (λ k. same_place k (place_of m)) (map prefix_place paths) ≡ true → is_exact_type m.sort ≡ false) → is_exact_type m.sort ≡ false
    by true e more = (prefix_is path m e).0
    by false e more = more (rw e at among)

-- The fronts among the first bytes are shorter than these.
fronts_shorter : (path : List ℕ) (n : ℕ) (m : PathMatch) → list_any (λ k. same_place k (place_of m)) (map prefix_place (fronts path n)) ≡ true
    → length (without_slash m.value) < n
fronts_shorter path zero m among = absurd (true≢false (sym among))
fronts_shorter path (suc n) m among = by (is_slash_at path n) refl (fronts_shorter path n m)
  where
    by : (b : Bool) → is_slash_at path n ≡ b
        → (list_any (λ k. same_place k (place_of m)) (map prefix_place (fronts path n)) ≡ true → length (without_slash m.value) < n)
        → length (without_slash m.value) < suc n
    by true e more = one (same_place (prefix_place (take n path)) (place_of m)) refl (rw e at among)
      where
        one : (c : Bool) → same_place (prefix_place (take n path)) (place_of m) ≡ c
            → (same_place (prefix_place (take n path)) (place_of m) || list_any (λ k. same_place k (place_of m)) (map prefix_place (fronts path n))) ≡ true
            → length (without_slash m.value) < suc n
        one true f h =
            let size : length (take n path) ≡ length (without_slash m.value) = ap length (prefix_is (take n path) m f).1 in
            let cut = length-take n path in
            omega arith
        one false f h =
            let less : length (without_slash m.value) < n = more (rw f at h) in
            omega arith
    by false e more =
        let less : length (without_slash m.value) < n = more (rw e at among) in
        omega arith

-- A match that isn't exact and fits is a front of the path by elements.
begins_of : (m : PathMatch) (path : List ℕ) → is_exact_type m.sort ≡ false → path_fits m path ≡ true → BeginsWithPrefix m.value path
begins_of m path other fit = by m.sort refl
  where
    by : (sort : PathMatchType) → m.sort ≡ sort → BeginsWithPrefix m.value path
    by path_types.Exact e = absurd (true≢false (rw e at other))
    by path_types.PathPrefix e = (prefix-bytes m.value path).0 (rw e at fit)
    by (path_types.Other name) e = absurd (true≢false (sym (rw e at fit)))

module _ (q : Request) where
  abbrev fits_this : Row → Bool
  fits_this x = fits x q

  abbrev stands_under : List ℕ → Row → Bool
  stands_under name x = bytes_eq name (name_of x.hostname)

  -- A row under this name that fits.
  abbrev fits_under : List ℕ → Row → Bool
  fits_under name x = stands_under name x && fits x q

  abbrev stands_in : Place → Row → Bool
  stands_in p x = same_place p (place_of x.test.path)

  module _ (name : List ℕ) where
    fits_so : (x : Row) → fits_under name x ≡ true → fits x q ≡ true
    fits_so x passes = second_so (stands_under name x) (fits x q) passes

    tied : (x y : Row) → fits_under name x ≡ true → fits_under name y ≡ true → AreTied x y
    tied x y px py =
        let mine : name ≡ name_of x.hostname = (bytes_eq-Decides name (name_of x.hostname)).0 (first_so (stands_under name x) (fits x q) px) in
        let theirs : name ≡ name_of y.hostname = (bytes_eq-Decides name (name_of y.hostname)).0 (first_so (stands_under name y) (fits y q) py) in
        one_name x y q (fits_so x px) (fits_so y py) (sym mine ∙ theirs)

    begins : (x : Row) → fits_under name x ≡ true → is_exact_type x.test.path.sort ≡ false → BeginsWithPrefix x.test.path.value q.path
    begins x px other = begins_of x.test.path q.path other (path_match_fits x q (fits_so x px))

    -- A row at a prefix stands before those at shorter ones.
    prefix_before : (x y : Row) → fits_under name x ≡ true → fits_under name y ≡ true → is_exact_type x.test.path.sort ≡ false → is_exact_type y.test.path.sort ≡ false
        → length (without_slash y.test.path.value) < length (without_slash x.test.path.value) → precedence x y ≡ Less
    prefix_before x y px py mine theirs shorter =
        by_length x y (tied x y px py) mine theirs (longer_value q.path x.test.path.value y.test.path.value (begins x px mine) (begins y py theirs) shorter)

    fronts_turn : (n : ℕ) → n ≤ length q.path → AreInTurn precedence is_total stands_in (fits_under name) (map prefix_place (fronts q.path n))
    fronts_turn zero within = tt
    fronts_turn (suc n) within = by (is_slash_at q.path n) refl (fronts_turn n (omega arith))
      where
        by : (b : Bool) → is_slash_at q.path n ≡ b → AreInTurn precedence is_total stands_in (fits_under name) (map prefix_place (fronts q.path n))
            → AreInTurn precedence is_total stands_in (fits_under name) (map prefix_place (fronts q.path (suc n)))
        by true e more = rw e (first, more)
          where
            first : IsBefore precedence is_total stands_in (fits_under name) (prefix_place (take n q.path)) (map prefix_place (fronts q.path n))
            first x y px py sx sy among =
                let mine = prefix_is (take n q.path) x.test.path sx in
                let theirs : is_exact_type y.test.path.sort ≡ false = prefixes_only (fronts q.path n) y.test.path among in
                let shorter : length (without_slash y.test.path.value) < n = fronts_shorter q.path n y.test.path among in
                let size : length (take n q.path) ≡ length (without_slash x.test.path.value) = ap length mine.1 in
                let cut = length-take n q.path in
                let less : length (without_slash y.test.path.value) < length (without_slash x.test.path.value) = omega arith in
                prefix_before x y px py mine.0 theirs less
        by false e more = rw e more

    places_turn : AreInTurn precedence is_total stands_in (fits_under name) (places_for q.path)
    places_turn = (exact, (whole, fronts_turn (length q.path) (omega arith)))
      where
        exact : IsBefore precedence is_total stands_in (fits_under name) (record { is_exact = true; path = q.path }) (map prefix_place (q.path ∷ fronts q.path (length q.path)))
        exact x y px py sx sy among =
            by_exact x y (tied x y px py) (exact_is q.path x.test.path sx) (prefixes_only (q.path ∷ fronts q.path (length q.path)) y.test.path among)

        whole : IsBefore precedence is_total stands_in (fits_under name) (prefix_place q.path) (map prefix_place (fronts q.path (length q.path)))
        whole x y px py sx sy among =
            let mine = prefix_is q.path x.test.path sx in
            let theirs : is_exact_type y.test.path.sort ≡ false = prefixes_only (fronts q.path (length q.path)) y.test.path among in
            let shorter : length (without_slash y.test.path.value) < length q.path = fronts_shorter q.path (length q.path) y.test.path among in
            let size : length q.path ≡ length (without_slash x.test.path.value) = ap length mine.1 in
            let less : length (without_slash y.test.path.value) < length (without_slash x.test.path.value) = omega arith in
            prefix_before x y px py mine.0 theirs less

    -- Under a name the foremost is found place by place.
    by_place : (rows : List Row) → first_found (λ p. foremost precedence (filter (λ x. stands_in p x && fits_under name x) rows)) (places_for q.path)
        ≡ foremost precedence (filter (fits_under name) rows)
    by_place rows = first_cell precedence is_total stands_in (fits_under name) (places_for q.path) rows
        (each_of (λ x. fits_under name x ≡ true → in_some precedence is_total stands_in (places_for q.path) x ≡ true)
        (λ x px. place_probed x.test.path q.path (path_match_fits x q (fits_so x px))) rows)
        places_turn

  names_turn : (host : List ℕ) → AreInTurn precedence is_total stands_under fits_this (names_above host)
  names_turn [] = ((λ x y px py sx sy among. absurd (true≢false (sym among))), tt)
  names_turn (b ∷ host) = by (b == DOT) refl (names_turn host)
    where
      by : (c : Bool) → (b == DOT) ≡ c → AreInTurn precedence is_total stands_under fits_this (names_above host)
          → AreInTurn precedence is_total stands_under fits_this (names_above (b ∷ host))
      by true e more = rw e (first, more)
        where
          first : IsBefore precedence is_total stands_under fits_this (b ∷ host) (names_above host)
          first x y px py sx sy among =
              let mine : length (b ∷ host) ≡ length (name_of x.hostname) = ap length ((bytes_eq-Decides (b ∷ host) (name_of x.hostname)).0 sx) in
              let theirs : length (name_of y.hostname) ≤ length host = above_within host (name_of y.hostname) among in
              longer_before x y q px py (omega arith)
      by false e more = rw e more

  host_turn : AreInTurn precedence is_total stands_under fits_this (names_for q.host)
  host_turn = (first, names_turn q.host)
    where
      first : IsBefore precedence is_total stands_under fits_this q.host (names_above q.host)
      first x y px py sx sy among =
          let mine : length q.host ≡ length (name_of x.hostname) = ap length ((bytes_eq-Decides q.host (name_of x.hostname)).0 sx) in
          let theirs : length (name_of y.hostname) < length q.host = above_shorter q.host (name_of y.hostname) among sy in
          longer_before x y q px py (omega arith)

  -- The foremost of all that fit is found name by name.
  by_name : (rows : List Row) → first_found (λ name. foremost precedence (filter (fits_under name) rows)) (names_for q.host)
      ≡ foremost precedence (filter fits_this rows)
  by_name rows = first_cell precedence is_total stands_under fits_this (names_for q.host) rows
      (each_of (λ x. fits x q ≡ true → in_some precedence is_total stands_under (names_for q.host) x ≡ true)
      (λ x px. name_probed x.hostname q.host (host_fits x q px)) rows)
      host_turn

  -- The tests of a row at an address, in another order.
  tests_alike : (name : List ℕ) (p : Place) (x : Row)
      → (stands_at (record { name = name; place = p }) x && fits x q) ≡ (stands_in p x && fits_under name x)
  tests_alike name p x = reordered (stands_under name x) (stands_in p x) (fits x q)

  -- What is found first among cells of these rows is the row that serves the request.
  pub found_is : (rows : List Row) (cell : List ℕ → Place → List Row)
      → ((name : List ℕ) (p : Place) → IsCellOf rows (record { name = name; place = p }) (cell name p))
      → found_by_name cell q ≡ foremost precedence (filter (λ x. fits x q) rows)
  unfolding found_by_name found_by_place first_fit
  found_is rows cell are =
      found_alike (λ name. found_by_place (cell name) q) (λ name. foremost precedence (filter (fits_under name) rows)) one (names_for q.host) ∙ by_name rows
    where
      at_place : (name : List ℕ) (p : Place) → first_fit q (cell name p) ≡ foremost precedence (filter (λ x. stands_in p x && fits_under name x) rows)
      at_place name p =
          let standing : Row → Bool = stands_at (record { name = name; place = p }) in
          first_in_order precedence is_total fits_this (filter standing rows) (cell name p) (are name p).all (are name p).ordered
          ∙ ap (foremost precedence)
          (filter_twice fits_this standing rows
          ∙ filter_alike (λ x. standing x && fits x q) (λ x. stands_in p x && fits_under name x) (tests_alike name p) rows)

      one : (name : List ℕ) → found_by_place (cell name) q ≡ foremost precedence (filter (fits_under name) rows)
      one name =
          found_alike (λ p. first_fit q (cell name p)) (λ p. foremost precedence (filter (λ x. stands_in p x && fits_under name x) rows)) (at_place name) (places_for q.path)
          ∙ by_place name rows
