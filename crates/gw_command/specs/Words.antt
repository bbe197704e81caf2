-- The commands and their words. Clap's own definitions say what it makes of the words of a command.
use Rattle.std.specs.Prelude.{ℕ, ◌+◌, ◌*◌, ◌^◌, Bool, false, nat_lt, not, List, [], ◌∷◌, ◌++◌, length, codes, bytes_eq, if◌then◌else◌, ◌==◌, Option, None, Some, option_map, unwrap_or}
use Rattle.gw_text.specs.model.Chains.{◌>>=◌}
use Rattle.gw_text.specs.model.Addresses.{Socket}
use Rattle.gw_text.specs.model.Doors.{Door, door_of, loopback_of}
use Rattle.clap.specs.Words.{Rule, Row, App, new_rule, new_app, with_rule, matches_of, fault_of, first_of, all_of}
use Rattle.clap.specs.declared.builder.action.ArgAction.TheVariants.{Set, Append, SetTrue}
use Rattle.gw_requests.specs.Numbers.{number_below}
use Rattle.gw_requests.specs.Quoted.{quoted_bytes}

-- What `status` is given.
pub record StatusWords : Type 0 where
  pub controller : List ℕ
  pub doors : List Door

-- What `explain` is given: the number of a door, and the bytes of a request.
pub record ExplainWords : Type 0 where
  pub controller : List ℕ
  pub at : ℕ
  pub request : List ℕ
  pub doors : List Door

-- What `replay` is given: how many workers there are, and whether its connections are polled.
pub record ReplayWords : Type 0 where
  pub controller : List ℕ
  pub workers : ℕ
  pub polled : Bool
  pub doors : List Door

-- What `serve` is given: how many workers each door has, after how many accepts a job ends, where it does, the socket of the admin
-- endpoint, and whether its connections are polled, many at once by each worker.
pub record ServeWords : Type 0 where
  pub controller : List ℕ
  pub workers : ℕ
  pub conns : Option ℕ
  pub admin : Socket
  pub polled : Bool
  pub doors : List Door

-- What `generate` is given: the seed of a script, of how many Routes and of how many requests it is, and whether it is run.
pub record GenerateWords : Type 0 where
  pub seed : ℕ
  pub routes : ℕ
  pub requests : ℕ
  pub runs : Bool

-- A command with what it is given.
pub data Command : Type 0 where
  status : StatusWords → Command
  explain : ExplainWords → Command
  replay : ReplayWords → Command
  generate : GenerateWords → Command
  serve : ServeWords → Command

-- The controller whose GatewayClasses are this program's, where the words name no other.
abbrev pub default_controller : List ℕ
default_controller = codes "gateward.example/controller"

-- The option of this name, with one value.
abbrev pub value_rule : List ℕ → Rule
value_rule name = record (new_rule name) { long = Some name; action = Some Set }

-- The flag of this name.
abbrev pub flag_rule : List ℕ → Rule
flag_rule name = record (new_rule name) { long = Some name; action = Some SetTrue }

-- The DOORs: any number of them.
abbrev pub door_rule : Rule
door_rule = record (new_rule (codes "door")) { action = Some Append }

-- The words of `status`: [--controller TEXT] [DOOR]...
abbrev pub status_app : App
status_app = with_rule (with_rule (new_app (codes "status")) (value_rule (codes "controller"))) door_rule

-- The words of `explain`: [--controller TEXT] [--at N] --request TEXT [DOOR]...
abbrev pub explain_app : App
explain_app =
    with_rule (with_rule (with_rule (with_rule (new_app (codes "explain")) (value_rule (codes "controller")))
    (value_rule (codes "at"))) (value_rule (codes "request"))) door_rule

-- The words of `replay`: [--controller TEXT] [--workers N] [--polled] [DOOR]...
abbrev pub replay_app : App
replay_app =
    with_rule (with_rule (with_rule (with_rule (new_app (codes "replay")) (value_rule (codes "controller")))
    (value_rule (codes "workers"))) (flag_rule (codes "polled"))) door_rule

-- The words of `generate`: --seed N --routes N --requests N [--run]
abbrev pub generate_app : App
generate_app =
    with_rule (with_rule (with_rule (with_rule (new_app (codes "generate")) (value_rule (codes "seed")))
    (value_rule (codes "routes"))) (value_rule (codes "requests"))) (flag_rule (codes "run"))

-- The options of `serve` that have a value: [--controller TEXT] [--workers N] [--conns N] --admin SOCKET
abbrev pub serve_values_app : App
serve_values_app =
    with_rule (with_rule (with_rule (with_rule (new_app (codes "serve")) (value_rule (codes "controller")))
    (value_rule (codes "workers"))) (value_rule (codes "conns"))) (value_rule (codes "admin"))

-- The options of `serve`: those, and [--polled]
abbrev pub serve_options_app : App
serve_options_app = with_rule serve_values_app (flag_rule (codes "polled"))

-- The words of `serve`: its options, and [DOOR]...
abbrev pub serve_app : App
serve_app = with_rule serve_options_app door_rule

-- What clap finds in the words of a command, the command's name first, where it refuses none of them.
unfoldable pub found_in : App → List (List ℕ) → Option (List Row)
found_in app words = if length (fault_of app words) == 0 then Some (matches_of app words) else None

-- The controller that is given, or the default.
abbrev pub controller_by : Option (List ℕ) → List ℕ
controller_by given = unwrap_or given default_controller

-- The value of `--controller`.
abbrev pub controller_in : List Row → List ℕ
controller_in rows = controller_by (first_of (codes "controller") rows)

-- The DOORs, in the order in which they are given.
abbrev pub doors_in : List Row → List (List ℕ)
doors_in rows = unwrap_or (all_of (codes "door") rows) []

-- Doors that were read before, in front of those that are still to be read.
abbrev pub after : List Door → Option (List Door) → Option (List Door)
after done rest = rest >>= λ doors. Some (done ++ doors)

-- The doors of words, of which each must be a DOOR.
abbrev pub doors_of : List (List ℕ) → Option (List Door)
doors_of [] = Some []
doors_of (word ∷ words) = door_of word >>= λ door. doors_of words >>= λ doors. Some (door ∷ doors)

-- What `status` is given by what clap found.
unfoldable pub status_in : List Row → Option StatusWords
status_in rows = do
  doors ← doors_of (doors_in rows)
  Some (record { controller = controller_in rows; doors = doors })

-- What `status` is given by its words.
unfoldable pub status_of : List (List ℕ) → Option StatusWords
status_of words = do
  rows ← found_in status_app words
  status_in rows

-- The number of a door that is given, or 0: a door of that number is there.
abbrev pub at_by : ℕ → Option (List ℕ) → Option ℕ
at_by doors given = number_below doors (unwrap_or given (codes "0"))

-- The bytes of the request that is given; one must be.
abbrev pub request_by : Option (List ℕ) → Option (List ℕ)
request_by given = given >>= quoted_bytes

-- What `explain` is given by the values of its options and the words of its DOORs.
unfoldable pub explain_by : Option (List ℕ) → Option (List ℕ) → Option (List ℕ) → List (List ℕ) → Option ExplainWords
explain_by controller at request doors = do
  request ← request_by request
  doors ← doors_of doors
  at ← at_by (length doors) at
  Some (record { controller = controller_by controller; at = at; request = request; doors = doors })

-- What `explain` is given by what clap found.
abbrev pub explain_in : List Row → Option ExplainWords
explain_in rows = explain_by (first_of (codes "controller") rows) (first_of (codes "at") rows) (first_of (codes "request") rows) (doors_in rows)

-- What `explain` is given by its words.
unfoldable pub explain_of : List (List ℕ) → Option ExplainWords
explain_of words = do
  rows ← found_in explain_app words
  explain_in rows

-- The most workers of a replay, and of all doors together that are served.
abbrev pub most_workers : ℕ
most_workers = 64

-- The number of workers that is given, or 1; there is one at least.
abbrev pub workers_by : Option (List ℕ) → Option ℕ
workers_by given = number_below (most_workers + 1) (unwrap_or given (codes "1")) >>= λ n. if n == 0 then None else Some n

-- A flag that is given has the value `true`.
abbrev pub is_given : Option (List ℕ) → Bool
is_given None = false
is_given (Some value) = bytes_eq value (codes "true")

-- What `replay` is given by the values of its options, by whether its flag is given, and by the words of its DOORs.
unfoldable pub replay_by : Option (List ℕ) → Option (List ℕ) → Bool → List (List ℕ) → Option ReplayWords
replay_by controller workers polled doors = do
  workers ← workers_by workers
  doors ← doors_of doors
  Some (record { controller = controller_by controller; workers = workers; polled = polled; doors = doors })

-- What `replay` is given by what clap found.
abbrev pub replay_in : List Row → Option ReplayWords
replay_in rows =
    replay_by (first_of (codes "controller") rows) (first_of (codes "workers") rows) (is_given (first_of (codes "polled") rows)) (doors_in rows)

-- What `replay` is given by its words.
unfoldable pub replay_of : List (List ℕ) → Option ReplayWords
replay_of words = do
  rows ← found_in replay_app words
  replay_in rows

-- The seed that is given; one must be.
abbrev pub seed_by : Option (List ℕ) → Option ℕ
seed_by given = given >>= number_below (2 ^ 64)

-- The most Routes of a script.
abbrev pub most_routes : ℕ
most_routes = 4000

-- The number of Routes that is given; one must be, and there is one Route at least.
abbrev pub routes_by : Option (List ℕ) → Option ℕ
routes_by given = given >>= number_below (most_routes + 1) >>= λ n. if n == 0 then None else Some n

-- The most requests of a script.
abbrev pub most_requests : ℕ
most_requests = 100000

-- The number of requests that is given; one must be.
abbrev pub requests_by : Option (List ℕ) → Option ℕ
requests_by given = given >>= number_below (most_requests + 1)

-- What `generate` is given by the values of its options, and by whether its flag is given.
unfoldable pub generate_by : Option (List ℕ) → Option (List ℕ) → Option (List ℕ) → Bool → Option GenerateWords
generate_by seed routes requests runs = do
  seed ← seed_by seed
  routes ← routes_by routes
  requests ← requests_by requests
  Some (record { seed = seed; routes = routes; requests = requests; runs = runs })

-- What `generate` is given by what clap found.
abbrev pub generate_in : List Row → Option GenerateWords
generate_in rows = generate_by (first_of (codes "seed") rows) (first_of (codes "routes") rows) (first_of (codes "requests") rows) (is_given (first_of (codes "run") rows))

-- What `generate` is given by its words.
unfoldable pub generate_of : List (List ℕ) → Option GenerateWords
generate_of words = do
  rows ← found_in generate_app words
  generate_in rows

-- The most accepts after which a job ends.
abbrev pub most_conns : ℕ
most_conns = 1000000

-- After how many accepts a job ends: the number that is given, of one at least, or none.
abbrev pub conns_by : Option (List ℕ) → Option (Option ℕ)
conns_by None = Some None
conns_by (Some given) = number_below (most_conns + 1) given >>= λ n. if n == 0 then None else Some (Some n)

-- The socket of the admin endpoint that is given; one must be, of the host itself.
abbrev pub admin_by : Option (List ℕ) → Option Socket
admin_by given = given >>= loopback_of

-- So many doors may have so many workers each.
abbrev pub are_few : ℕ → ℕ → Bool
are_few workers doors = not (nat_lt most_workers (workers * doors))

-- What `serve` is given by the values of its options, by whether its flag is given, and by the words of its DOORs.
unfoldable pub serve_by : Option (List ℕ) → Option (List ℕ) → Option (List ℕ) → Option (List ℕ) → Bool → List (List ℕ) → Option ServeWords
serve_by controller workers conns admin polled doors = do
  workers ← workers_by workers
  conns ← conns_by conns
  admin ← admin_by admin
  doors ← doors_of doors
  if are_few workers (length doors) then Some (record { controller = controller_by controller; workers = workers; conns = conns; admin = admin; polled = polled; doors = doors }) else None

-- What `serve` is given by what clap found.
abbrev pub serve_in : List Row → Option ServeWords
serve_in rows =
    serve_by (first_of (codes "controller") rows) (first_of (codes "workers") rows) (first_of (codes "conns") rows) (first_of (codes "admin") rows)
    (is_given (first_of (codes "polled") rows)) (doors_in rows)

-- What `serve` is given by its words.
unfoldable pub serve_of : List (List ℕ) → Option ServeWords
serve_of words = do
  rows ← found_in serve_app words
  serve_in rows

-- The command of the words that follow the program's name, of which the first names it. There is none where the
-- words aren't right.
abbrev pub command_of : List (List ℕ) → Option Command
command_of [] = None
command_of (word ∷ words) =
    if bytes_eq word (codes "status") then option_map status (status_of (word ∷ words))
    else (if bytes_eq word (codes "explain") then option_map explain (explain_of (word ∷ words))
    else (if bytes_eq word (codes "replay") then option_map replay (replay_of (word ∷ words))
    else (if bytes_eq word (codes "generate") then option_map generate (generate_of (word ∷ words))
    else (if bytes_eq word (codes "serve") then option_map serve (serve_of (word ∷ words)) else None))))
