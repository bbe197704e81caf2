-- What a whole connection of a link comes to.
use Rattle.std.specs.Prelude.{◌≡◌, ◌+◌, ◌≤◌, ℕ, Bool, true, List, ◌++◌, length, map, Option, Some, IfSome}
use Rattle.gw_answers.specs.model.ServedRows.{ServedRow}
use Rattle.gw_frames.specs.Inlets.{StandsFor as InletStandsFor}
use Rattle.gw_frames.specs.declared.ended.Ended.{Ended}
use Rattle.gw_frames.specs.declared.inlet.Inlet.{Inlet}
use Rattle.gw_frames.specs.model.Requests.{Step, ended}
use Rattle.gw_link.specs.Exchanges.{Exchange}
use Rattle.gw_link.specs.declared.order.UpstreamCall.{UpstreamCall}
use Rattle.gw_message_laws.specs.declared.requests.TheConstants.{MOST_OPEN_BYTES}
use Rattle.gw_link.specs.Pieces.{Gives, IsAtEnd, Takes}
use Rattle.gw_snap.specs.Lists.{BeginsWith}
use Rattle.gw_worker.specs.Conns.{AreWhole, IsAllOf}
use Rattle.gw_text.specs.model.Addresses.{Socket}
use Rattle.gw_worker.specs.Exchanges.{AreRefused, Exchanged, HasRisenBy, TellsAll, call_faults}
use Rattle.gw_worker.specs.Flows.{BrokeOff, Outside, Served}
use Rattle.gw_worker.specs.Workers.{Decided, IsLeftOpen}
use Rattle.gw_worker.specs.declared.conn.Conn.{Conn}
use Rattle.gw_worker.specs.declared.serve.TheConstants.{MOST_PIECE}
use Rattle.gw_worker.specs.declared.serve.Flow.TheVariants as flows
use Rattle.gw_worker.specs.model.Workers.{Worker}
use Rattle.gw_worker.specs.model.Sessions.{Part, Place, rows_of, step_of, written}

-- A connection is served by further bytes of the link until it ends; where the end needs that all bytes have come, nothing is left.
pub record Ran (refuses : UpstreamCall → Socket → Type 0) (p : Place) (before after : Worker) (c : Conn) (bytes : List ℕ) (parts : List Part) (text : List ℕ) (left left' : Option (List ℕ)) (o o' : Outside) (why : Ended) : Type 0 where
  pub piece : List ℕ
  pub over : Bool
  pub taken : Gives left piece left'
  pub few : length piece ≤ MOST_OPEN_BYTES + MOST_PIECE
  pub came : over ≡ true → IfSome left (λ told. IsAtEnd left')
  pub served : Served refuses p before after c (bytes ++ piece) over parts text o o' (flows.Ended why)

-- A connection is given up behind further bytes of the link.
pub record Stopped (refuses : UpstreamCall → Socket → Type 0) (p : Place) (before after : Worker) (c : Conn) (bytes : List ℕ) (parts : List Part) (text : List ℕ) (left left' : Option (List ℕ)) (o o' : Outside) : Type 0 where
  pub piece : List ℕ
  pub taken : Gives left piece left'
  pub few : length piece ≤ MOST_OPEN_BYTES + MOST_PIECE
  pub broke : BrokeOff refuses p before after c (bytes ++ piece) parts text o o'

-- The bytes taken from a link, of which there are at most one read more than a connection has that hasn't ended, and what came of them:
-- one row for each request, in their order; each request decided by the worker's books, and by a list of changes that begins with the
-- one before; one exchange for each request for which a connection with a backend was opened; and all that is written.
pub record HasServed (refuses : UpstreamCall → Socket → Type 0) (p : Place) (before after : Worker) (rows : List ServedRow) (why : Ended) (left left' : Option (List ℕ)) (o o' : Outside) : Type 0 where
  pub bytes : List ℕ
  pub over : Bool
  pub parts : List Part
  pub met : List Exchange
  pub taken : Gives left bytes left'
  pub few : length bytes ≤ MOST_OPEN_BYTES + MOST_PIECE
  pub came : over ≡ true → IfSome left (λ told. IsAtEnd left')
  pub is_all : IsAllOf bytes over parts
  pub ends : ended (map step_of parts) ≡ Some why
  pub rows_are : rows ≡ rows_of p parts
  pub whole : AreWhole p parts
  pub decided : Decided p before after parts
  pub exchanged : Exchanged p parts met
  pub refused : AreRefused refuses p parts
  pub written : Takes o.written (written p parts) o'.written
  pub told : TellsAll o.exchanges met o'.exchanges
  pub failed : HasRisenBy (call_faults rows) o.faults o'.faults

-- A connection that was given up: the rows are those of what came first of the bytes taken, and a front of what that has written was
-- written. What came behind that is left open: at most one step, for which there is an exchange only where it is a request that was sent
-- to its backend.
pub record HasBroken (refuses : UpstreamCall → Socket → Type 0) (p : Place) (before after : Worker) (rows : List ServedRow) (left left' : Option (List ℕ)) (o o' : Outside) : Type 0 where
  pub bytes : List ℕ
  pub fed : List ℕ
  pub inlet : Inlet
  pub steps : List Step
  pub parts : List Part
  pub front : List ℕ
  pub met : List Exchange
  pub further : List Exchange
  pub middle : Worker
  pub taken : Gives left bytes left'
  pub few : length bytes ≤ MOST_OPEN_BYTES + MOST_PIECE
  pub begins : BeginsWith fed bytes
  pub first : InletStandsFor inlet fed (map step_of parts ++ steps)
  pub rows_are : rows ≡ rows_of p parts
  pub whole : AreWhole p parts
  pub decided : Decided p before middle parts
  pub left_open : IsLeftOpen p middle after steps further
  pub exchanged : Exchanged p parts met
  pub refused : AreRefused refuses p parts
  pub is_front : BeginsWith front (written p parts)
  pub wrote : Takes o.written front o'.written
  pub told : TellsAll o.exchanges (met ++ further) o'.exchanges
  pub failed : HasRisenBy (call_faults rows) o.faults o'.faults
