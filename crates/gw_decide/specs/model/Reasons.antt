-- Why a Route serves a request or doesn't: how far its rows came.
use Rattle.std.specs.Prelude.{ℕ, List, [], ◌∷◌, ◌++◌, Bool, false, ◌==◌, nat_lt, if◌then◌else◌, Option, Some, None, filter, fold, map}
use Rattle.std.specs.Option.{option_map_or}
use Rattle.std.specs.Ordering.{is_lt, is_gt}
use Rattle.gw_decide.specs.declared.why.Why.{Why}
use Rattle.gw_decide.specs.declared.why.Why.TheVariants.{OtherListener, Hostname, Path, Method, Headers, Query, Preceded, Chosen}
use Rattle.gw_frames.specs.model.Requests.{Request}
use Rattle.gw_match.specs.model.Choice.{listener_at, row_at}
use Rattle.gw_rows.specs.declared.fitting.Test.{Test}
use Rattle.gw_rows.specs.declared.fitting.Test.TheVariants as tests
use Rattle.gw_rows.specs.model.Fitting.{failed_test}
use Rattle.gw_rows.specs.model.Rows.{Row, Rows, ServedListener}
use Rattle.gw_text.specs.model.Names.{Key, key_order, same_key}

-- The reason that names a test.
abbrev pub failed_at : Test → Why
failed_at tests.Hostname = Hostname
failed_at tests.Path = Path
failed_at tests.Method = Method
failed_at tests.Headers = Headers
failed_at tests.Query = Query

-- The row is one of the Route whose row serves the request.
abbrev pub is_of_its_route : Option Row → Row → Bool
is_of_its_route best row = option_map_or (λ b. same_key b.key row.key) best false

-- Of a row at the listener that takes the request: the first of its tests that doesn't hold; where all hold, whether its Route is the one
-- that serves the request.
abbrev pub reason_here : Option Row → Option Test → Row → Why
reason_here best (Some test) row = failed_at test
reason_here best None row = if is_of_its_route best row then Chosen else Preceded

-- Of any row: one at another listener than the one that takes the request isn't tested.
abbrev pub reason_at : Option ServedListener → Option Row → Request → Row → Why
reason_at None best q row = OtherListener
reason_at (Some l) best q row = if row.listener == l.number then reason_here best (failed_test row q) row else OtherListener

-- Why a row doesn't serve the request, or does.
abbrev pub row_reason : Rows → Request → Row → Why
row_reason rows q row = reason_at (listener_at rows.listeners q.host) (row_at rows q) q row

-- How far a row with this reason came.
abbrev pub distance : Why → ℕ
distance OtherListener = 0
distance Hostname = 1
distance Path = 2
distance Method = 3
distance Headers = 4
distance Query = 5
distance Preceded = 6
distance Chosen = 7

-- The reason of the one that came further.
abbrev pub further : Why → Why → Why
further a b = if nat_lt (distance a) (distance b) then b else a

-- A Route's reason is the furthest over its rows at the door.
unfoldable pub reason_of : Rows → Request → Key → Why
reason_of rows q key = fold further OtherListener (map (row_reason rows q) (filter (λ r. same_key r.key key) rows.rows))

-- The keys with one more, at its place in key order; a key that is there stands there once.
abbrev pub with_key : List Key → Key → List Key
with_key keys key = filter (λ k. is_lt (key_order k key)) keys ++ key ∷ filter (λ k. is_gt (key_order k key)) keys

-- The Routes of rows, each once, in key order.
unfoldable pub routes_of : List Row → List Key
routes_of rows = fold with_key [] (map (λ r. r.key) rows)

-- Each Route with rows at the door, in key order, with its reason.
unfoldable pub explained_of : Rows → Request → List (Key × Why)
explained_of rows q = map (λ key. (key, reason_of rows q key)) (routes_of rows.rows)
