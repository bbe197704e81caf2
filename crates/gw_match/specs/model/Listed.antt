-- The rows of a door listener by listener, and those of a listener Route by Route.
use Rattle.std.specs.Prelude.{◌≡◌, ℕ, ◌+◌, List, [], ◌∷◌, ◌++◌, Bool, ◌==◌, All, AllPairs, filter, flat_map, map, take, drop}
use Rattle.std.specs.List.Sorted.{IsStrictlyIncreasing}
use Rattle.gw_rows.specs.model.Precedence.{AreOneRow}
use Rattle.gw_rows.specs.model.Rows.{Row, Rows, ServedListener}

-- The rows of a listener: a list for each Route, in key order, empty where the Route has none there.
pub record Listed : Type 0 where
  pub listener : ServedListener
  pub routes : List (List Row)

-- All rows of these Routes.
abbrev pub rows_in : List (List Row) → List Row
rows_in routes = flat_map (λ rows. rows) routes

-- The rows of these listeners.
abbrev pub rows_with : List Listed → Rows
rows_with tables = record { listeners = map (λ t. t.listener) tables; rows = flat_map (λ t. rows_in t.routes) tables }

-- The Routes with these rows in place of those of one of them.
abbrev pub with_put : ℕ → List Row → List (List Row) → List (List Row)
with_put at rows routes = take at routes ++ rows ∷ drop (at + 1) routes

-- The Routes and one more, with these rows.
abbrev pub with_inserted : ℕ → List Row → List (List Row) → List (List Row)
with_inserted at rows routes = take at routes ++ rows ∷ drop at routes

-- The Routes without one of them.
abbrev pub without : ℕ → List (List Row) → List (List Row)
without at routes = take at routes ++ drop (at + 1) routes

-- No two of these are one row.
abbrev pub AreApart : List Row → Type 0
AreApart rows = AllPairs (λ a b. ¬ AreOneRow a b) rows

-- All of these are rows of the listener.
abbrev pub AreOwnRows : ServedListener → List Row → Type 0
AreOwnRows l rows = All (λ r. r.listener ≡ l.number) rows

-- Rows of a listener: all are its own, and no two of them are one row.
pub record AreRowsOf (l : ServedListener) (rows : List Row) : Type 0 where
  pub own : AreOwnRows l rows
  pub apart : AreApart rows

-- The listeners of one door: their numbers increase, and each has its own rows alone.
pub record AreOfOneDoor (tables : List Listed) : Type 0 where
  pub numbers : IsStrictlyIncreasing (map (λ t. t.listener.number) tables)
  pub own : All (λ t. AreOwnRows t.listener (rows_in t.routes)) tables

-- The row is one of this listener.
abbrev pub is_row_of : ServedListener → Row → Bool
is_row_of l row = row.listener == l.number

-- The rows of one door stand listener by listener, in the order of the listeners' numbers, and no two at a listener are one row.
pub record AreRowsOfDoor (door : Rows) : Type 0 where
  pub numbers : IsStrictlyIncreasing (map (λ l. l.number) door.listeners)
  pub listed : door.rows ≡ flat_map (λ l. filter (is_row_of l) door.rows) door.listeners
  pub apart : All (λ l. AreApart (filter (is_row_of l) door.rows)) door.listeners

-- A listener with all its rows as those of one Route.
abbrev pub in_one : List Row → ServedListener → Listed
in_one rows l = record { listener = l; routes = filter (is_row_of l) rows ∷ [] }
