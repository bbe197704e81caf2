-- What the program is set to do by its words, and why it doesn't begin.
use Rattle.std.specs.Prelude.{◌≡◌, ℕ, Bool, ◌*◌, ◌<◌, ◌≤◌, ⊤, List, [], length, Option, Some, None, option_map, Result, Ok, Err}
use Rattle.gw_text.specs.model.Addresses.{Socket}
use Rattle.gw_text.specs.model.Doors.{Door, DoorFault as DoorRule, too_many_doors, two_addresses, door_twice, door_fault}
use Rattle.gw_frames.specs.model.Requests.{Request}
use Rattle.gw_command.specs.Words.{Command, GenerateWords, status, explain, replay, generate, serve, default_controller, most_workers, most_routes, most_requests, command_of}
use Rattle.gw_requests.specs.Requests.{IsRequestOf}
use Rattle.gw_command.specs.declared.fault.Fault.{Fault}
use Rattle.gw_command.specs.declared.fault.Fault.TheVariants.{Usage, TooManyDoors, TwoAddresses, DoorTwice, NoMemory}

-- What is written of the objects: their statuses, what becomes of a request at the door of this number, or what the
-- connections of a script are served by so many workers. Or a script is written, or run. Or connections are served: by so many workers at each door, by jobs that end
-- after so many accepts, where they do, with the admin endpoint at this socket. Of a replay and a service the last says whether the connections are polled.
pub data Task : Type 0 where
  a_status : Task
  an_explanation : ℕ → Request → Task
  a_replay : ℕ → Bool → Task
  a_generation : GenerateWords → Task
  a_service : ℕ → Option ℕ → Socket → Bool → Task

-- The name of the controller whose classes are ours, the doors, and the task.
pub record Setting : Type 0 where
  pub controller : List ℕ
  pub doors : List Door
  pub task : Task

-- The task's numbers are within their bounds: the door is there, and there is a worker, and no more than there may be,
-- of all doors together where they are served. A script has a Route, and no more Routes and requests than it may have.
abbrev pub IsWithin : Task → List Door → Type 0
IsWithin a_status doors = ⊤
IsWithin (an_explanation at q) doors = at < length doors
IsWithin (a_replay workers polled) doors = (0 < workers) × (workers ≤ most_workers)
IsWithin (a_generation words) doors = (0 < words.routes) × (words.routes ≤ most_routes) × (words.requests ≤ most_requests)
IsWithin (a_service workers conns admin polled) doors = (0 < workers) × (workers * length doors ≤ most_workers)

-- Connections are served, and no input is read.
abbrev pub IsService : Task → Type 0
IsService a_status = ⊥
IsService (an_explanation at q) = ⊥
IsService (a_replay workers polled) = ⊥
IsService (a_generation words) = ⊥
IsService (a_service workers conns admin polled) = ⊤

-- A script is written, or run, and no input is read.
abbrev pub IsGeneration : Task → Type 0
IsGeneration a_status = ⊥
IsGeneration (an_explanation at q) = ⊥
IsGeneration (a_replay workers polled) = ⊥
IsGeneration (a_generation words) = ⊤
IsGeneration (a_service workers conns admin polled) = ⊥

-- The fault of doors that break a rule.
abbrev pub broken : DoorRule → Fault
broken too_many_doors = TooManyDoors
broken two_addresses = TwoAddresses
broken door_twice = DoorTwice

-- The setting of doors that break this rule, or none.
abbrev pub with_rule : Option DoorRule → List ℕ → List Door → Task → Result Setting Fault
with_rule (Some rule) controller doors task = Err (broken rule)
with_rule None controller doors task = Ok (record { controller = controller; doors = doors; task = task })

-- The setting of words that give this task, or none.
abbrev pub with_task : List ℕ → List Door → Option Task → Result Setting Fault
with_task controller doors None = Err Usage
with_task controller doors (Some task) = with_rule (door_fault doors) controller doors task

-- The start of a command, if the words are a command's. The bytes that `explain` is given must be one whole request. `generate` is given no
-- controller and no doors.
abbrev pub StartsBy : Option Command → Result Setting Fault → Type 0
StartsBy None start = start ≡ Err Usage
StartsBy (Some (status words)) start = start ≡ with_task words.controller words.doors (Some a_status)
StartsBy (Some (explain words)) start =
    (q : Option Request) × IsRequestOf words.request q
    × (start ≡ with_task words.controller words.doors (option_map (an_explanation words.at) q))
StartsBy (Some (replay words)) start = start ≡ with_task words.controller words.doors (Some (a_replay words.workers words.polled))
StartsBy (Some (generate words)) start = start ≡ with_task default_controller [] (Some (a_generation words))
StartsBy (Some (serve words)) start = start ≡ with_task words.controller words.doors (Some (a_service words.workers words.conns words.admin words.polled))

-- The start of the words that follow the program's name, which is one only: they must be a command's, and then the doors must break no rule.
unfoldable pub Starts : List (List ℕ) → Result Setting Fault → Type 0
Starts words start = StartsBy (command_of words) start

-- The result is the start of the command, or memory ran out.
abbrev pub IsStartBy : Option Command → Result Setting Fault → Type 0
IsStartBy command (Err NoMemory) = ⊤
IsStartBy command result = StartsBy command result

-- The result is the start of the words, or memory ran out.
abbrev pub IsStart : List (List ℕ) → Result Setting Fault → Type 0
IsStart words (Err NoMemory) = ⊤
IsStart words result = Starts words result

-- The result is this setting of words, or memory ran out.
abbrev pub IsSetting : Result Setting Fault → Result Setting Fault → Type 0
IsSetting setting (Err NoMemory) = ⊤
IsSetting setting result = result ≡ setting
