-- How far a polled connection came, between its polls.
use Rattle.std.specs.Prelude.{◌≡◌, ℕ, ◌+◌, ◌*◌, ◌≤◌, Bool, List, [], ◌++◌, length, map, drop, Option, Some, None, ⊤}
use Rattle.gw_frames.specs.Inlets.{is_over}
use Rattle.gw_frames.specs.model.Requests.{ended}
use Rattle.gw_link.specs.Exchanges.{Exchange}
use Rattle.gw_link.specs.declared.order.UpstreamCall.{UpstreamCall}
use Rattle.gw_poll_exchange.specs.Polled.{IsJoined, StandsFor as ExchangeStandsFor}
use Rattle.gw_poll_exchange.specs.declared.polled.PolledExchange.{PolledExchange}
use Rattle.gw_text.specs.model.Addresses.{Socket}
use Rattle.gw_worker.specs.Conns.{IsAllOf, IsAsking, IsFed, IsServing, IsSettled, IsUnfinished, StandsFor, turns_left}
use Rattle.gw_worker.specs.Exchanges.{Exchanged}
use Rattle.gw_worker.specs.Flows.{Outside}
use Rattle.gw_worker.specs.Turns.{AreUnanswered, IsExchange}
use Rattle.gw_worker.specs.declared.conn.Conn.{Conn}
use Rattle.gw_worker.specs.declared.conn.Stage.TheVariants.{Reading as IsReading}
use Rattle.gw_worker.specs.declared.conn.Turn.{Turn}
use Rattle.gw_worker.specs.declared.conn.Turn.TheVariants as turns
use Rattle.gw_worker.specs.declared.serve.Flow.{Flow}
use Rattle.gw_worker.specs.declared.serve.Flow.TheVariants as flows
use Rattle.gw_worker.specs.model.Sessions.{Part, Place, step_of}
use Rattle.gw_worker.specs.model.Workers.{Worker}
use Rattle.gw_poll.specs.Histories.{History, IsBroken, Went}
use Rattle.gw_poll.specs.declared.course.Course.{Course}
use Rattle.gw_poll.specs.declared.course.Stage.{Stage}
use Rattle.gw_poll.specs.declared.course.Stage.TheVariants.{Turning, Reading, Writing, Exchanging}

-- What is still to be written of a text.
abbrev pub unwritten : Stage → List ℕ
unwritten Turning = []
unwritten Reading = []
unwritten (Writing text at) = drop at text
unwritten (Exchanging x) = []

-- No backend is asked.
abbrev pub IsUnasked : History → Type 0
IsUnasked h = (h.asked ≡ []) × (h.begun ≡ [])

-- What is known of the history by what comes next. Where bytes are read, what came is all that the bytes so far give. Where a backend is
-- asked, it is for that request, and what was exchanged for it is what the exchange stands for.
abbrev pub StageStands : Stage → Place → History → Type 0
StageStands Turning p h = IsUnasked h
StageStands Reading p h = IsUnasked h × IsAllOf h.bytes h.over h.parts × (ended (map step_of h.parts) ≡ None)
StageStands (Writing text at) p h = IsUnasked h
StageStands (Exchanging x) p h = IsExchange p h.asked x.to x.bytes x.head × AreUnanswered h.asked × ExchangeStandsFor x h.begun

-- A connection stands for a history: its rows are those of what has its reply, and all of that is written but what is left of one text.
pub record Follows (p : Place) (c : Course) (h : History) : Type 0 where
  pub conn : StandsFor c.conn p h.bytes (h.parts ++ h.asked) (h.text ++ unwritten c.stage)
  pub over : is_over c.conn.inlet ≡ h.over
  pub exchanged : Exchanged p h.parts h.met
  pub stage : StageStands c.stage p h

-- The connection is where its next step expects it, these bytes having come.
abbrev pub IsAtStage : Stage → Conn → List ℕ → Type 0
IsAtStage Turning c bytes = IsSettled c.stage
IsAtStage Reading c bytes = (c.stage ≡ IsReading) × IsUnfinished c bytes
IsAtStage (Writing text at) c bytes = IsSettled c.stage × (at ≤ length text)
IsAtStage (Exchanging x) c bytes = IsAsking c.stage × ((met : List Exchange) × ExchangeStandsFor x met)

pub record IsGoing (c : Course) (bytes : List ℕ) : Type 0 where
  pub fed : IsFed c.conn bytes
  pub at : IsAtStage c.stage c.conn bytes

-- Where an exchange has a connection with a backend, the upstream has it.
abbrev pub IsHeld : Stage → Option Socket → Type 0
IsHeld Turning at = ⊤
IsHeld Reading at = ⊤
IsHeld (Writing text at') at = ⊤
IsHeld (Exchanging x) at = IsJoined x.stage at x.to

-- The exchange sends this to the socket, and nothing of it was done yet.
pub record IsNew (x : PolledExchange) (to : Socket) (bytes : List ℕ) (head : Bool) : Type 0 where
  pub to_is : x.to ≡ to
  pub bytes_are : x.bytes ≡ bytes
  pub head_is : x.head ≡ head
  pub stands : ExchangeStandsFor x []
  pub joined : (at : Option Socket) → IsJoined x.stage at x.to

-- What a turn asks for was begun: bytes are to be read, or the connection has ended, or a text is to be written, or a backend is asked.
abbrev pub HasBegun : Turn → Course → Course → Option Flow → Type 0
HasBegun turns.Need c c' flow = (c' ≡ record c { stage = Reading }) × (flow ≡ Some flows.More)
HasBegun (turns.Ended why) c c' flow = (c' ≡ c) × (flow ≡ Some (flows.Ended why))
HasBegun (turns.Write text) c c' flow = (c' ≡ record c { stage = Writing text 0 }) × (flow ≡ None)
HasBegun (turns.Exchange to bytes head) c c' flow =
    ((x : PolledExchange) × IsNew x to bytes head × (c' ≡ record c { stage = Exchanging x })) × (flow ≡ None)

-- The connection may be polled: no earlier poll has ended it, and where an exchange has a connection with a backend, the upstream has it.
abbrev pub CanGoOn : Course → Option Socket → Type 0
CanGoOn c at = ((bytes : List ℕ) × IsGoing c bytes) × IsHeld c.stage at

-- No backend is asked, nothing is to be written, and further bytes may come: the connection may be polled whatever connection its upstream
-- has.
pub record IsIdle (c : Course) : Type 0 where
  pub serving : IsServing c.conn
  pub going : (at : Option Socket) → CanGoOn c at
  pub written : unwritten c.stage ≡ []

-- How many steps are left at most before bytes are read.
abbrev pub stage_steps : Stage → ℕ
stage_steps Turning = 0
stage_steps Reading = 0
stage_steps (Writing text at) = 1
stage_steps (Exchanging x) = 1

-- The connection went on, and stands for the history continued.
pub record GoesTo (refuses : UpstreamCall → Socket → Type 0) (p : Place) (w w' : Worker) (c : Course) (h : History) (left left' : Option (List ℕ)) (o o' : Outside) : Type 0 where
  pub h' : History
  pub went : Went refuses p w w' h h' left left' o o'
  pub follows : Follows p c h'

-- The connection was given up.
pub record GivesUp (refuses : UpstreamCall → Socket → Type 0) (p : Place) (w w' : Worker) (c : Course) (h : History) (left left' : Option (List ℕ)) (o o' : Outside) : Type 0 where
  pub h' : History
  pub broken : IsBroken refuses p w w' c.conn.inlet c.conn.rows h h' left left' o o'

abbrev pub steps_left : Course → ℕ
steps_left c = 2 * turns_left c.conn + stage_steps c.stage

-- A reply was made, and is to be written.
pub record IsReplied (p : Place) (c : Conn) (stage : Stage) (bytes : List ℕ) (parts : List Part) (text : List ℕ) : Type 0 where
  pub reply : List ℕ
  pub stands : StandsFor c p bytes parts (text ++ reply)
  pub next : stage ≡ Writing reply 0
