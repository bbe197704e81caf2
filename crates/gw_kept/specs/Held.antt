-- What is kept of all Routes, and what is made of it.
use Rattle.std.specs.Prelude.{◌≡◌, ◌≤◌, ℕ, List, [], All, length, map, if◌then◌else◌}
use Rattle.gw_text.specs.model.Doors.{Door}
use Rattle.gw_text.specs.model.Names.{Key, same_key}
use Rattle.gw_text.specs.model.Statuses.{GatewayStatus, RouteStatus}
use Rattle.gw_text.specs.model.World.{World, route_key}
use Rattle.gw_rows.specs.model.DoorRows.{served_at}
use Rattle.gw_rows.specs.model.Rows.{Row, ServedListener}
use Rattle.gw_eval.specs.Candidates.{kept_rows}
use Rattle.gw_eval.specs.Kept.{KeptRoute, kept_route_of}
use Rattle.gw_kept.specs.Counts.{AreCounts}
use Rattle.gw_kept.specs.declared.counts.Counts.{Counts}
use Rattle.gw_match.specs.model.Listed.{AreRowsOf, Listed, rows_in}
use Rattle.gw_kept.specs.Places.{IsInOrder, with_at, behind}
use Rattle.gw_kept.specs.declared.place.Place.{Place}

-- Under which key a Route is kept.
abbrev pub kept_route_key : KeptRoute → Key
kept_route_key k = route_key k.route.object

-- And the status of a Gateway.
abbrev pub gateway_status_key : GatewayStatus → Key
gateway_status_key s = s.key

-- There is a plan for each rule of the Route.
abbrev pub HasItsPlans : KeptRoute → Type 0
HasItsPlans k = length k.plans ≡ length k.route.object.rules

-- It is what is kept of its Route in some world.
abbrev pub IsEvaluated : List ℕ → KeptRoute → Type 0
IsEvaluated controller k = (w : World) × (k ≡ kept_route_of controller w k.route)

-- A listener of the door with the rows of these Routes.
abbrev pub listed_with : Door → List KeptRoute → ServedListener → Listed
listed_with door kept l = record { listener = l; routes = map (kept_rows door l) kept }

-- The table has the rows of these Routes.
abbrev pub IsOf : Door → List KeptRoute → Listed → Type 0
IsOf door kept t = t.routes ≡ map (kept_rows door t.listener) kept

-- The rows of these Routes at the listener are such as a table has.
abbrev pub HasRows : Door → List KeptRoute → ServedListener → Type 0
HasRows door kept l = AreRowsOf l (rows_in (map (kept_rows door l) kept))

-- A door with the tables of its served listeners.
pub record DoorTables : Type 0 where
  pub door : Door
  pub tables : List Listed

-- The table's Routes with the rows of these at the place.
abbrev pub routes_with : Place → Door → List KeptRoute → Listed → List (List Row)
routes_with p door values t = with_at p (map (kept_rows door t.listener) values) t.routes

-- The table with them.
abbrev pub table_with : Place → Door → List KeptRoute → Listed → Listed
table_with p door values t = record t { routes = routes_with p door values t }

-- The table can have them.
pub record Takes (p : Place) (door : Door) (values : List KeptRoute) (t : Listed) : Type 0 where
  pub within : behind p ≤ length t.routes
  pub rows : AreRowsOf t.listener (rows_in (routes_with p door values t))

-- The door with them in each table.
abbrev pub door_with : Place → List KeptRoute → DoorTables → DoorTables
door_with p values d = record d { tables = map (table_with p d.door values) d.tables }

-- A door with the listeners that are served there in a world, and the rows of these Routes.
abbrev pub door_at : List Door → List ℕ → World → List KeptRoute → Door → DoorTables
door_at doors controller w kept door = record { door = door; tables = map (listed_with door kept) (served_at doors controller w door) }

-- A door and its served listeners.
pub record ServedDoor : Type 0 where
  pub door : Door
  pub listeners : List ServedListener

-- Those of tables.
abbrev pub served_by : DoorTables → ServedDoor
served_by d = record { door = d.door; listeners = map (λ t. t.listener) d.tables }

-- A door without listeners.
abbrev pub door_alone : Door → DoorTables
door_alone door = record { door = door; tables = [] }

abbrev pub without_listeners : Door → ServedDoor
without_listeners door = record { door = door; listeners = [] }

-- A door and its served listeners in a world.
abbrev pub served_door : List Door → List ℕ → World → Door → ServedDoor
served_door doors controller w door = record { door = door; listeners = served_at doors controller w door }

-- The door; if it is one of this Gateway, with its served listeners in a world.
abbrev pub served_anew : List Door → List ℕ → World → Key → ServedDoor → ServedDoor
served_anew doors controller w gateway d = if same_key gateway d.door.gateway then served_door doors controller w d.door else d

-- What is kept, for which controller, and which listeners are served at which doors.
pub record Held : Type 0 where
  pub controller : List ℕ
  pub kept : List KeptRoute
  pub doors : List ServedDoor

-- What is made of what is kept: it stands in the order of its keys, and statuses, numbers and tables are those of its Routes.
pub record IsHeld (controller : List ℕ) (kept : List KeptRoute) (statuses : List RouteStatus) (counts : Counts) (doors : List DoorTables) : Type 0 where
  pub order : IsInOrder kept_route_key kept
  pub evaluated : All (IsEvaluated controller) kept
  pub statuses_are : statuses ≡ map (λ k. k.status) kept
  pub counts_are : AreCounts kept counts
  pub tables_are : All (λ d. All (IsOf d.door kept) d.tables) doors
