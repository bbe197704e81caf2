-- Turns of the loops that look at one place after another.
use Rattle.std.proofs.Common.{◌≡◌, ◌∙◌, refl, sym, ap, ℕ, ◌+◌, ◌*◌, ◌<◌, ◌≤◌, arith, Bool, true, false, cond, ◌==◌, List, [], ◌∷◌, length, take, drop, map, slice_index, Option, None, add_comm, zero-add}
use Rattle.std.specs.Option.{option_or}
use Rattle.gw_frames.specs.model.Requests.{Request}
use Rattle.gw_rows.specs.model.Rows.{Row}
use Rattle.gw_cells.proofs.Counting.{above_left, fronts_left, one_more_name}
use Rattle.gw_cells.specs.Cells.{first_fit, found_by_place}
use Rattle.gw_cells.specs.model.Addresses.{DOT, Place}
use Rattle.gw_cells.specs.model.Choice.{first_found}
use Rattle.gw_cells.specs.model.Probes.{fronts, is_slash_at, names_above, places_for, prefix_place}

-- Nothing is found at places where nothing is.
nothing_at : {P T : Type 0} (look : P → Option T) → ((p : P) → look p ≡ None) → (places : List P) → first_found look places ≡ None
nothing_at look none [] = refl
nothing_at {P} {T} look none (p ∷ places) = ap (λ (o : Option T). option_or o (first_found look places)) (none p) ∙ nothing_at look none places

-- Nothing fits in an empty cell.
empty_cell : (q : Request) → first_fit q [] ≡ None
unfolding first_fit
empty_cell q = refl

-- Nothing is found where all cells of a name are empty.
pub empty_name : (cell : Place → List Row) (q : Request) → ((p : Place) → cell p ≡ []) → found_by_place cell q ≡ None
unfolding found_by_place
empty_name cell q none = nothing_at (λ p. first_fit q (cell p)) (λ p. ap (first_fit q) (none p) ∙ empty_cell q) (places_for q.path)

module _ {T : Type 0} (look : Place → Option T) (path : List ℕ) (end rest : ℕ) (next : end ≡ rest + 1) where
  -- Where nothing is found before a byte, the fronts before it are left.
  pub front_turn : None ≡ cond (is_slash_at path rest) (look (prefix_place (take rest path))) None
      → first_found look (map prefix_place (fronts path rest)) ≡ first_found look (map prefix_place (fronts path end))
  front_turn none =
      sym (ap (λ (l : List (List ℕ)). first_found look (map prefix_place l)) (fronts_left path end rest next) ∙ by (is_slash_at path rest) none)
    where
      by : (b : Bool) → None ≡ cond b (look (prefix_place (take rest path))) None
          → first_found look (map prefix_place (cond b (take rest path ∷ fronts path rest) (fronts path rest))) ≡ first_found look (map prefix_place (fronts path rest))
      by true none = ap (λ (o : Option T). option_or o (first_found look (map prefix_place (fronts path rest)))) (sym none)
      by false none = refl

  -- The fronts that are left are one fewer where a slash stands there.
  pub front_steps : length (fronts path end) ≡ cond (is_slash_at path rest) 1 0 + length (fronts path rest)
  front_steps = ap length (fronts_left path end rest next) ∙ by (is_slash_at path rest)
    where
      by : (b : Bool) → length (cond b (take rest path ∷ fronts path rest) (fronts path rest)) ≡ cond b 1 0 + length (fronts path rest)
      by true = omega arith
      by false = omega arith

module _ {T : Type 0} (look : List ℕ → Option T) (host : List ℕ) (i : ℕ) (within : i < length host) where
  -- Where nothing is found from a byte on, the names behind it are left.
  pub name_turn : None ≡ cond (slice_index host i == DOT) (look (drop i host)) None
      → first_found look (names_above (drop (i + 1) host)) ≡ first_found look (names_above (drop i host))
  name_turn none = sym (ap (first_found look) (above_left host i within) ∙ by (slice_index host i == DOT) none)
    where
      by : (b : Bool) → None ≡ cond b (look (drop i host)) None
          → first_found look (cond b (drop i host ∷ names_above (drop (i + 1) host)) (names_above (drop (i + 1) host))) ≡ first_found look (names_above (drop (i + 1) host))
      by true none = ap (λ (o : Option T). option_or o (first_found look (names_above (drop (i + 1) host)))) (sym none)
      by false none = refl

-- The probes of the names that are left.
pub name_steps : (host : List ℕ) (i most : ℕ) → i < length host
    → length (names_above (drop i host)) * most ≡ cond (slice_index host i == DOT) most 0 + length (names_above (drop (i + 1) host)) * most
name_steps host i most within = ap (λ (l : List (List ℕ)). length l * most) (above_left host i within) ∙ by (slice_index host i == DOT)
  where
    by : (b : Bool) → length (cond b (drop i host ∷ names_above (drop (i + 1) host)) (names_above (drop (i + 1) host))) * most
        ≡ cond b most 0 + length (names_above (drop (i + 1) host)) * most
    by true =
        let size : length (drop i host ∷ names_above (drop (i + 1) host)) ≡ length (names_above (drop (i + 1) host)) + 1 = omega arith in
        ap (λ (n : ℕ). n * most) size ∙ one_more_name (length (names_above (drop (i + 1) host))) most
        ∙ add_comm (length (names_above (drop (i + 1) host)) * most) most
    by false = sym (zero-add (length (names_above (drop (i + 1) host)) * most))

-- Steps that a turn takes, of those that were left.
pub turn_within : (old mid new all here rest cost : ℕ) → here ≡ cost + rest → mid + here ≤ old + all → new ≤ mid + cost → new + rest ≤ old + all
turn_within old mid new all here rest cost is before more = omega arith

pub turn_ends : (old mid new all here rest cost : ℕ) → here ≡ cost + rest → mid + here ≤ old + all → new ≤ mid + cost → new ≤ old + all
turn_ends old mid new all here rest cost is before more = omega arith

-- The probes of the host itself, and then of the names above it.
pub all_names : (old mid new most names all : ℕ) → all ≡ names + most → mid ≤ old + most → new ≤ mid + names → new ≤ old + all
all_names old mid new most names all is first more = omega arith
