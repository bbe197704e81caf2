-- How a connection of a client, which is served by calls or polled, stands for what came of it.
use Rattle.std.specs.Prelude.{◌≡◌, ℕ, ◌++◌, Bool, false, true, List, []}
use Rattle.gw_link.specs.Exchanges.{Exchange}
use Rattle.gw_link.specs.declared.order.UpstreamCall.{UpstreamCall}
use Rattle.gw_poll.specs.Courses.{Follows, IsIdle}
use Rattle.gw_poll.specs.Histories.{History}
use Rattle.gw_text.specs.model.Addresses.{Socket}
use Rattle.gw_worker.specs.Conns.{IsServing, StandsFor}
use Rattle.gw_worker.specs.Flows.{Outside, Served}
use Rattle.gw_worker.specs.declared.conn.Conn.{Conn}
use Rattle.gw_worker.specs.declared.serve.Flow.{Flow}
use Rattle.gw_worker.specs.declared.serve.Flow.TheVariants as flows
use Rattle.gw_worker.specs.model.Sessions.{Part, Place}
use Rattle.gw_worker.specs.model.Workers.{Worker}
use Rattle.gw_conns.specs.declared.connection.Connection.{Connection}
use Rattle.gw_conns.specs.declared.connection.Connection.TheVariants.{Called, Polled}

-- What decides its requests and makes its replies.
abbrev pub conn_of : Connection → Conn
conn_of (Called c) = c
conn_of (Polled f) = f.course.conn

-- Whether it is served by being polled.
abbrev pub is_polled : Connection → Bool
is_polled (Called c) = false
is_polled (Polled f) = true

-- What a polled connection has done, of which nothing is asked of a backend now.
abbrev pub history_of : List ℕ → List Part → List Exchange → List ℕ → History
history_of bytes parts met text = record { bytes = bytes; over = false; parts = parts; met = met; asked = []; begun = []; text = text }

-- It stands for the bytes that came, what came of them, and what was written.
abbrev pub Stands : Connection → Place → List ℕ → List Part → List ℕ → Type 0
Stands (Called c) p bytes parts text = StandsFor c p bytes parts text
Stands (Polled f) p bytes parts text = (met : List Exchange) × Follows p f.course (history_of bytes parts met text)

-- All that came so far was served, and further bytes may come.
abbrev pub IsReady : Connection → Type 0
IsReady (Called c) = IsServing c
IsReady (Polled f) = IsIdle f.course

-- A connection went on, and flows so; where further bytes may come, it stands for what came.
pub record IsServedBy (refuses : UpstreamCall → Socket → Type 0) (p : Place) (before after : Worker) (c : Connection) (bytes : List ℕ) (over : Bool) (parts : List Part) (text : List ℕ) (o o' : Outside) (flow : Flow) : Type 0 where
  pub served : Served refuses p before after (conn_of c) bytes over parts text o o' flow
  pub stands : flow ≡ flows.More → Stands c p bytes (parts ++ served.took.more) (text ++ served.took.wrote)
