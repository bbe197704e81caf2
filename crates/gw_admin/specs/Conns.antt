-- What a connection stands for: the bytes that came, and what came of them; and what its calls add to that.
use Rattle.std.specs.Prelude.{◌≡◌, ◌+◌, ◌≤◌, ℕ, ℤ, Bool, List, [], ◌∷◌, ◌++◌, length, map, Option, Some, None}
use Rattle.gw_frames.specs.Inlets.{StandsFor as InletStandsFor, steps_left}
use Rattle.gw_frames.specs.model.Requests.{Asks, Step, a_head, ended}
use Rattle.gw_link.specs.Moments.{TicksInTurn}
use Rattle.gw_link.specs.Pieces.{Takes}
use Rattle.gw_lists.specs.Lists.{BeginsWith}
use Rattle.gw_store.specs.declared.event.Entry.{Entry}
use Rattle.gw_admin.specs.declared.conn.Conn.{Conn}
use Rattle.gw_admin.specs.declared.conn.Flow.{Flow}
use Rattle.gw_admin.specs.declared.conn.Flow.TheVariants.{More, Ended}
use Rattle.gw_admin.specs.model.Sessions.{Answered, Part, Place, asks_behind, moments_of, step_of, written_behind}

-- All that is outside of a connection: what its pass has seen, the moments that its clock tells, and what is written on its link.
pub record Outside : Type 0 where
  pub seen : List Entry
  pub moments : Option (List ℤ)
  pub written : Option (List ℕ)

abbrev pub outside : List Entry → Option (List ℤ) → Option (List ℕ) → Outside
outside seen moments written = record { seen = seen; moments = moments; written = written }

-- A connection stands for the bytes that came, and what came of them.
pub record StandsFor (c : Conn) (bytes : List ℕ) (parts : List Part) : Type 0 where
  pub inlet : InletStandsFor c.inlet bytes (map step_of parts)
  pub asks : c.asks ≡ asks_behind 0 parts

-- The same where it hasn't ended.
pub record IsReading (c : Conn) (bytes : List ℕ) (parts : List Part) : Type 0 where
  pub stands : StandsFor c bytes parts
  pub unended : ended (map step_of parts) ≡ None

-- The bytes gave one step more, of which nothing came yet.
pub record IsBehind (c : Conn) (bytes : List ℕ) (parts : List Part) (step : Step) : Type 0 where
  pub inlet : InletStandsFor c.inlet bytes (map step_of parts ++ step ∷ [])
  pub asks : c.asks ≡ asks_behind 0 parts
  pub unended : ended (map step_of parts) ≡ None

-- It hasn't ended, and no more requests came than an inlet gives.
pub record IsServing (c : Conn) : Type 0 where
  pub bytes : List ℕ
  pub parts : List Part
  pub reading : IsReading c bytes parts
  pub few : c.asks + steps_left c.inlet ≤ 2000

-- How far the bytes came with what came of them, of which all have come where `over` is true: there may be more to do; or that is all,
-- and more bytes are needed, or the connection ended.
abbrev pub Flows : Bool → List ℕ → List Part → Option Flow → Type 0
Flows over bytes parts None = ended (map step_of parts) ≡ None
Flows over bytes parts (Some More) = (ended (map step_of parts) ≡ None) × Asks a_head 0 bytes over (map step_of parts)
Flows over bytes parts (Some (Ended why)) = (ended (map step_of parts) ≡ Some why) × Asks a_head 0 bytes over (map step_of parts)

-- What parts more, behind so many requests, are outside: each is answered, the clock is asked in turn, and all is written.
pub record Adds (p : Place) (count : ℕ) (o o' : Outside) (more : List Part) : Type 0 where
  pub answered : Answered o.seen o'.seen more
  pub ticks : TicksInTurn o.moments (moments_of more) o'.moments
  pub wrote : Takes o.written (written_behind p count more) o'.written

-- A connection that stood for bytes and parts stands for some more.
pub record Turned (p : Place) (c : Conn) (over : Bool) (bytes : List ℕ) (parts : List Part) (o o' : Outside) (flow : Option Flow) : Type 0 where
  pub more : List Part
  pub stands : StandsFor c bytes (parts ++ more)
  pub adds : Adds p (asks_behind 0 parts) o o' more
  pub flows : Flows over bytes (parts ++ more) flow

-- What is left outside where a connection is given up behind these parts: a front of what they have written, and the clock may have
-- been asked once more.
pub record Leaves (p : Place) (count : ℕ) (o o' : Outside) (more : List Part) : Type 0 where
  pub answered : Answered o.seen o'.seen more
  pub moments : List ℤ
  pub once : length moments ≤ 1
  pub ticks : TicksInTurn o.moments (moments_of more ++ moments) o'.moments
  pub front : List ℕ
  pub is_front : BeginsWith front (written_behind p count more)
  pub wrote : Takes o.written front o'.written

-- A connection that stood for bytes and parts is given up behind some more of what came first. One step further may have come of which
-- no text was made.
pub record BrokeOff (p : Place) (c : Conn) (bytes : List ℕ) (parts : List Part) (o o' : Outside) : Type 0 where
  pub fed : List ℕ
  pub begins : BeginsWith fed bytes
  pub more : List Part
  pub further : List Step
  pub single : length further ≤ 1
  pub inlet : InletStandsFor c.inlet fed (map step_of (parts ++ more) ++ further)
  pub leaves : Leaves p (asks_behind 0 parts) o o' more
