-- How what the code keeps stands for what the lines so far have done.
use Rattle.std.specs.Prelude.{◌≡◌, ℕ, ℤ, ◌+◌, ◌<◌, ◌≤◌, List, [], ◌∷◌, ◌++◌, length, map, slice_get, Option, Some, None, ⊤, string_bytes}
use Rattle.std.specs.BTreeMap.{get_by_text}
use Rattle.gw_frames.specs.declared.ended.Ended.{Ended}
use Rattle.gw_answers.specs.declared.books.Books.{Books}
use Rattle.gw_hub.specs.Control.{Control}
use Rattle.gw_link.specs.Moments.{TicksInTurn}
use Rattle.gw_link.specs.Upstreams.{UpstreamState}
use Rattle.gw_link.specs.declared.order.Order.{Order}
use Rattle.gw_resolve.specs.declared.outcome.Outcome.{Outcome}
use Rattle.gw_resolve.specs.declared.outcome.Outcome.TheVariants.{Accepted, Skipped}
use Rattle.gw_script.specs.Scripts.{step_of}
use Rattle.gw_snap.specs.Lists.{BeginsWith, Book, Seen}
use Rattle.gw_store.specs.declared.event.Entry.{Entry}
use Rattle.gw_text.specs.model.Addresses.{Socket}
use Rattle.gw_text.specs.model.Doors.{Door}
use Rattle.gw_worker.specs.declared.serve.Flow.{Flow}
use Rattle.gw_worker.specs.declared.serve.Flow.TheVariants as flows
use Rattle.gw_worker.specs.model.Workers.{Worker}
use Rattle.gw_replay.specs.Replays.{Client as Plain, IsAnswer, Runs, SendsOn, Serves, Site, State, no_picks, place_at, with_order}
use Rattle.gw_json.specs.Lines.{line_of}
use Rattle.gw_replay.specs.Lines.{ahead_data, place_data}
use Rattle.gw_conns.specs.Standing.{IsReady, Stands}
use Rattle.gw_replay.specs.declared.ending.Ending.{Ending}
use Rattle.gw_replay.specs.declared.ending.Ending.TheVariants.{Done, Place, Ahead}
use Rattle.gw_replay.specs.declared.replay.Client.{Client}
use Rattle.gw_replay.specs.declared.replay.Replay.{Replay}
use Rattle.gw_replay.specs.declared.stop.Stop.{Stop}
use Rattle.gw_replay.specs.declared.stop.Stop.TheVariants as stops

-- A worker that picked nothing yet.
abbrev pub worker_over : Seen Entry (List Door × List ℕ) → Worker
worker_over pass = record { pass = pass; books = no_picks }

-- The picks of each worker.
abbrev pub picks_of : List Worker → List Books
picks_of workers = map (λ w. w.books) workers

-- The doors and the controller's name.
abbrev pub site_of : {R : Type 0} → Replay R → Site
site_of r = record { doors = r.controller.doors; controller = r.controller.controller }

-- An open connection.
pub record IsClient (site : Site) (workers : ℕ) (c : Client) (plain : Plain) : Type 0 where
  pub worker : c.worker ≡ plain.worker
  pub within : c.worker < workers
  pub door : plain.door < length site.doors
  pub stands : Stands c.conn (place_at site plain.door) plain.bytes plain.parts plain.text
  pub ready : IsReady c.conn

-- The open connection of a name, or none.
abbrev pub Matches : Site → ℕ → Option Client → Option Plain → Type 0
Matches site workers None None = ⊤
Matches site workers None (Some plain) = ⊥
Matches site workers (Some c) None = ⊥
Matches site workers (Some c) (Some plain) = IsClient site workers c plain

-- A worker of an opening, whose tables have these doors and this controller's name.
pub record IsOf (fixed : List Door × List ℕ) (book : Book) (w : Worker) : Type 0 where
  pub fixed_is : w.pass.fixed ≡ fixed
  pub book_is : w.pass.book ≡ book

-- A worker of an opening that has seen these changes, or more.
pub record HasSeen (list : List Entry) (fixed : List Door × List ℕ) (book : Book) (w : Worker) : Type 0 where
  pub seen : BeginsWith list w.pass.seen
  pub of : IsOf fixed book w

-- Each of them has.
abbrev pub HaveSeen : List Entry → List Door × List ℕ → Book → List Worker → Type 0
HaveSeen list fixed book [] = ⊤
HaveSeen list fixed book (w ∷ workers) = HasSeen list fixed book w × HaveSeen list fixed book workers

-- Each of the workers has seen what a controller published, or more.
abbrev pub HaveLearnt : Control → List Worker → Type 0
HaveLearnt c workers = HaveSeen c.published (c.doors, c.controller) c.book workers

-- Backends in memory that do what was said of them: no call of theirs fails by its number, and none wanted memory so far.
pub record AreBackends (up : UpstreamState) (orders : List Order) : Type 0 where
  pub orders_are : up.orders ≡ orders
  pub some : 0 < up.most
  pub unlisted : up.calls.fails ≡ []
  pub ample : up.starved ≡ 0

-- What is kept is what stands after the lines so far.
pub record Keeps {R : Type 0} (r : Replay R) (s : State) : Type 0 where
  pub changes : r.controller.changes ≡ s.changes
  pub published : r.controller.published ≡ s.published
  pub learnt : HaveLearnt r.controller r.workers.items
  pub workers : picks_of r.workers.items ≡ s.workers
  pub clients : (name : List ℕ) → Matches (site_of r) (length s.workers) (get_by_text r.clients name) (s.clients name)
  pub backends : AreBackends r.backends s.orders
  pub statuses : r.statuses.items ≡ s.statuses
  pub refused : r.refused ≡ s.refused
  pub skipped : r.skipped ≡ s.skipped

-- What was done, and what is written of it behind what was written before.
pub record Did {R : Type 0} (does : State → State → List ℕ → Type 0) (old new : Replay R) (s : State) : Type 0 where
  pub state : State
  pub text : List ℕ
  pub does_so : does s state text
  pub keeps : Keeps new state
  pub printed : string_bytes new.text ≡ string_bytes old.text ++ text

-- From what stood, whatever that was, this was done. The doors and the controller's name stay.
pub record Does {R : Type 0} (does : State → State → List ℕ → Type 0) (old new : Replay R) : Type 0 where
  pub site : site_of new ≡ site_of old
  pub did : (s : State) → Keeps old s → Did does old new s

-- It is what stands after some lines, one of whose open connections this is.
abbrev pub HasClient : {R : Type 0} → Replay R → Client → Type 0
HasClient r c = (s : State) × ((plain : Plain) × (Keeps r s × IsClient (site_of r) (length s.workers) c plain))

-- It is what stands after some lines.
abbrev pub IsKept : {R : Type 0} → Replay R → Type 0
IsKept r = (s : State) × Keeps r s

-- How many events are no change, after one more event.
abbrev pub skipped_after : Outcome → ℕ → ℕ
skipped_after Accepted n = n
skipped_after Skipped n = n + 1

-- An answer of a backend, or a call of it that fails, from now on.
abbrev pub Orders : Order → State → State → List ℕ → Type 0
Orders order s s' text = (s' ≡ with_order s order) × (text ≡ [])

abbrev pub Answers : Socket → List ℕ → State → State → List ℕ → Type 0
Answers socket bytes s s' text = (order : Order) × (IsAnswer order socket bytes × (s' ≡ with_order s order) × (text ≡ []))

-- How a connection ends that flows so, or that it doesn't.
abbrev pub ending_of : Flow → Option Ended
ending_of flows.More = None
ending_of (flows.Ended why) = Some why

-- A connection was served by a piece, from what stood.
pub record ServedFrom {R : Type 0} (line : ℕ) (name piece : List ℕ) (c' : Client) (flow : Flow) (old new : Replay R) (s : State) (plain : Plain) : Type 0 where
  pub state : State
  pub plain' : Plain
  pub text : List ℕ
  pub serves : Serves (place_at (site_of old) plain.door) line name plain plain' piece (ending_of flow) s state text
  pub keeps : Keeps new state
  pub printed : string_bytes new.text ≡ string_bytes old.text ++ text
  pub client : flow ≡ flows.More → IsClient (site_of old) (length state.workers) c' plain'

-- A connection was served by a piece.
pub record ServedBy {R : Type 0} (line : ℕ) (name piece : List ℕ) (c c' : Client) (flow : Flow) (old new : Replay R) : Type 0 where
  pub site : site_of new ≡ site_of old
  pub did : (s : State) (plain : Plain) → Keeps old s → IsClient (site_of old) (length s.workers) c plain
      → ServedFrom line name piece c' flow old new s plain

-- The clock was asked once for each moment, in turn, and this was done.
pub record DoesInTurn {R : Type 0} (does : List ℤ → State → State → List ℕ → Type 0) (before after : Option (List ℤ)) (old new : Replay R) : Type 0 where
  pub moments : List ℤ
  pub in_turn : TicksInTurn before moments after
  pub done : Does (does moments) old new

-- Lines were run, the first of them with this number.
abbrev pub RunsTo : {R : Type 0} → ℕ → List (List ℕ) → Option (List ℤ) → Option (List ℤ) → Replay R → Replay R → Type 0
RunsTo line lines before after old new = DoesInTurn (λ moments s s' text. Runs (site_of old) line lines moments s s' text) before after old new

-- Where a script is given up for another cause than want of memory.
abbrev pub Unless : Stop → Type 0 → Type 0
Unless stops.NoMemory P = ⊤
Unless (stops.Place n) P = P
Unless (stops.Ahead n) P = P

-- Which worker it is.
abbrev pub number_of : Stop → ℕ
number_of stops.NoMemory = 0
number_of (stops.Place n) = n
number_of (stops.Ahead n) = n

-- The cause, where so many changes are published: a reading of the worker's was refused; or the worker was found ahead, and has seen more.
abbrev pub IsCause : Stop → ℕ → Worker → Type 0
IsCause stops.NoMemory front w = ⊤
IsCause (stops.Place n) front w = 0 < w.pass.refused
IsCause (stops.Ahead n) front w = (0 < w.pass.ahead) × (front < length w.pass.seen)

-- A worker shows the cause.
pub record HasCause {R : Type 0} (stop : Stop) (r : Replay R) : Type 0 where
  pub worker : Worker
  pub there : slice_get r.workers.items (number_of stop) ≡ Some worker
  pub cause : IsCause stop (length r.controller.published) worker

-- The last line of a script that is given up, behind what was written before, where so many changes are published.
abbrev pub IsGivenUp : Ending → List ℕ → ℕ → List ℕ → Type 0
IsGivenUp (Done refused) before front text = ⊥
IsGivenUp Place before front text = text ≡ before ++ line_of place_data
IsGivenUp Ahead before front text = (seen : ℕ) × ((front < seen) × (text ≡ before ++ line_of (ahead_data front seen)))

-- A script is given up: nothing was published or written, and a worker shows the cause.
pub record Halted {R : Type 0} (stop : Stop) (old new : Replay R) : Type 0 where
  pub controller : new.controller ≡ old.controller
  pub text : new.text ≡ old.text
  pub cause : HasCause stop new

-- The same, where something stands that is so, as that a connection is open.
pub record HaltedAt {R : Type 0} (stop : Stop) (stands : State → Type 0) (old new : Replay R) : Type 0 where
  pub halted : Halted stop old new
  pub stood : (s : State) → Keeps old s → stands s

abbrev pub HaltsAt : {R : Type 0} → Stop → (State → Type 0) → Replay R → Replay R → Type 0
HaltsAt stop stands old new = Unless stop (HaltedAt stop stands old new)

-- An open connection of the name stands.
abbrev pub IsOpen : List ℕ → State → Type 0
IsOpen name s = (client : Plain) × (s.clients name ≡ Some client)

-- A connection stands on which a line sends, where there are so many workers and doors.
abbrev pub Sends : ℕ → ℕ → List ℕ → State → Type 0
Sends workers doors line s = SendsOn (step_of workers doors line) s.clients

-- Lines are run, the first of them with this number, and a script is given up at one that sends: those before it were done.
pub record StoppedIn {R : Type 0} (stop : Stop) (number : ℕ) (lines : List (List ℕ)) (before : Option (List ℤ)) (old new : Replay R) : Type 0 where
  pub first : List (List ℕ)
  pub line : List ℕ
  pub others : List (List ℕ)
  pub lines_are : lines ≡ first ++ line ∷ others
  pub after : Option (List ℤ)
  pub middle : Replay R
  pub runs : RunsTo number first before after old middle
  pub halted : HaltedAt stop (Sends (length middle.workers.items) (length (site_of middle).doors) line) middle new

abbrev pub StopsIn : {R : Type 0} → Stop → ℕ → List (List ℕ) → Option (List ℤ) → Replay R → Replay R → Type 0
StopsIn stop number lines before old new = Unless stop (StoppedIn stop number lines before old new)

-- None of the counts is above this number.
abbrev pub AreAtMost : ℕ → List (ℕ × ℕ) → Type 0
AreAtMost most [] = ⊤
AreAtMost most (e ∷ counts) = (e.1 ≤ most) × AreAtMost most counts
