-- How far a connection came by a call that serves all requests that are whole.
use Rattle.std.specs.Prelude.{◌≡◌, ℕ, Bool, List, [], ◌∷◌, ◌++◌, map, Option, Some, None, ⊤, ◌⊎◌, IsTrue}
use Rattle.gw_answers.specs.model.ServedRows.{fault_of}
use Rattle.gw_frames.specs.Inlets.{StandsFor as InletStandsFor}
use Rattle.gw_frames.specs.model.Requests.{Step, ended}
use Rattle.gw_exchange.specs.Exchanged.{IsRefused}
use Rattle.gw_link.specs.Exchanges.{Exchange}
use Rattle.gw_link.specs.declared.order.UpstreamCall.{UpstreamCall}
use Rattle.gw_link.specs.Pieces.{Takes, TakesPart}
use Rattle.gw_link.specs.Faults.{HasRisen}
use Rattle.gw_snap.specs.Lists.{BeginsWith}
use Rattle.gw_text.specs.model.Addresses.{Socket}
use Rattle.gw_worker.specs.Conns.{AreWhole, IsAllOf, IsSettled, StandsFor}
use Rattle.gw_worker.specs.Exchanges.{AreRefused, Exchanged, HasRisenBy, IsExchanged, TellsAll, as_given, call_faults, is_call_fault}
use Rattle.gw_worker.specs.Workers.{Decided, IsLeftOpen}
use Rattle.gw_worker.specs.declared.conn.Conn.{Conn}
use Rattle.gw_worker.specs.declared.serve.Flow.{Flow}
use Rattle.gw_worker.specs.declared.serve.Flow.TheVariants as flows
use Rattle.gw_worker.specs.model.Workers.{Worker}
use Rattle.gw_worker.specs.model.Sessions.{Answer, Part, Place, rows_of, step_of, written}

-- What is told of a link and an upstream: the bytes written, the exchanges, and how many calls of the upstream failed.
pub record Outside : Type 0 where
  pub written : Option (List ℕ)
  pub exchanges : Option (List Exchange)
  pub faults : ℕ

abbrev pub outside : Option (List ℕ) → Option (List Exchange) → ℕ → Outside
outside written exchanges faults = record { written = written; exchanges = exchanges; faults = faults }

-- A connection goes on: more came of its bytes, each request decided by the worker, sent where it is sent, and answered; and as many
-- calls of the upstream failed at least as there are rows with such a fault, each at its row's socket.
pub record Took (refuses : UpstreamCall → Socket → Type 0) (p : Place) (before after : Worker) (c : Conn) (bytes : List ℕ) (parts : List Part) (text : List ℕ) (o o' : Outside) : Type 0 where
  pub more : List Part
  pub wrote : List ℕ
  pub met : List Exchange
  pub stands : StandsFor c p bytes (parts ++ more) (text ++ wrote)
  pub decided : Decided p before after more
  pub exchanged : Exchanged p more met
  pub refused : AreRefused refuses p more
  pub written : Takes o.written wrote o'.written
  pub told : TellsAll o.exchanges met o'.exchanges
  pub failed : HasRisenBy (call_faults (rows_of p more)) o.faults o'.faults

-- What came is all that the bytes give; they end so, or further ones may come.
abbrev pub Flows : List ℕ → Bool → List Part → Flow → Type 0
Flows bytes over parts flows.More = IsAllOf bytes over parts × (ended (map step_of parts) ≡ None)
Flows bytes over parts (flows.Ended why) = IsAllOf bytes over parts × (ended (map step_of parts) ≡ Some why)

-- What is said where nothing more is to be done.
abbrev pub FlowsBy : List ℕ → Bool → List Part → Option Flow → Type 0
FlowsBy bytes over parts None = ⊤
FlowsBy bytes over parts (Some flow) = Flows bytes over parts flow

-- A connection went on, and flows so.
pub record Served (refuses : UpstreamCall → Socket → Type 0) (p : Place) (before after : Worker) (c : Conn) (bytes : List ℕ) (over : Bool) (parts : List Part) (text : List ℕ) (o o' : Outside) (flow : Flow) : Type 0 where
  pub took : Took refuses p before after c bytes parts text o o'
  pub flows : Flows bytes over (parts ++ took.more) flow

-- A connection went on, and flows so, or there is more to do.
pub record TookTo (refuses : UpstreamCall → Socket → Type 0) (p : Place) (before after : Worker) (c : Conn) (bytes : List ℕ) (over : Bool) (parts : List Part) (text : List ℕ) (o o' : Outside) (flow : Option Flow) : Type 0 where
  pub took : Took refuses p before after c bytes parts text o o'
  pub flows : FlowsBy bytes over (parts ++ took.more) flow

-- A reply is written.
pub record Replied (p : Place) (c : Conn) (bytes : List ℕ) (parts : List Part) (text : List ℕ) (told told' : Option (List ℕ)) : Type 0 where
  pub reply : List ℕ
  pub stands : StandsFor c p bytes parts (text ++ reply)
  pub written : Takes told reply told'

-- A reply wasn't made, and nothing is written; or it was made, and a front of it is written.
abbrev pub IsUnwritten : Place → Conn → Conn → List ℕ → List Part → List ℕ → Option (List ℕ) → Option (List ℕ) → Type 0
IsUnwritten p before after bytes parts text told told' =
    ((after.rows ≡ before.rows) × Takes told [] told')
    ⊎ ((reply : List ℕ) × (StandsFor after p bytes parts (text ++ reply) × IsSettled after.stage × TakesPart told reply told'))

-- What a backend answered, by the exchange that is told.
abbrev pub Meets : (UpstreamCall → Socket → Type 0) → Socket → List ℕ → Bool → Answer → Outside → Outside → Type 0
Meets refuses to bytes head answer o o' =
    (met : List Exchange) × (IsExchanged to bytes head (as_given answer) met × TellsAll o.exchanges met o'.exchanges
    × (IsTrue (is_call_fault (fault_of answer)) → HasRisen o.faults o'.faults) × IsRefused refuses to (as_given answer))

-- One exchange more is told, at the socket, in which all bytes were sent.
abbrev pub TellsOne : Socket → List ℕ → Option (List Exchange) → Option (List Exchange) → Type 0
TellsOne to bytes before after = (e : Exchange) × ((e.to ≡ to) × (e.sent ≡ bytes) × TellsAll before (e ∷ []) after)

-- A connection was given up. Its rows are those of what came before that, of which a front of the text is written. What came behind
-- that is left open: at most one step, for which there is an exchange only where it is a request that was sent to its backend.
pub record BrokeOff (refuses : UpstreamCall → Socket → Type 0) (p : Place) (before after : Worker) (c : Conn) (bytes : List ℕ) (parts : List Part) (text : List ℕ) (o o' : Outside) : Type 0 where
  pub more : List Part
  pub wrote : List ℕ
  pub met : List Exchange
  pub further : List Exchange
  pub middle : Worker
  pub fed : List ℕ
  pub steps : List Step
  pub begins : BeginsWith fed bytes
  pub inlet : InletStandsFor c.inlet fed (map step_of (parts ++ more) ++ steps)
  pub rows_are : c.rows ≡ rows_of p (parts ++ more)
  pub whole : AreWhole p (parts ++ more)
  pub front : BeginsWith (text ++ wrote) (written p (parts ++ more))
  pub decided : Decided p before middle more
  pub left : IsLeftOpen p middle after steps further
  pub exchanged : Exchanged p more met
  pub refused : AreRefused refuses p more
  pub written : Takes o.written wrote o'.written
  pub told : TellsAll o.exchanges (met ++ further) o'.exchanges
  pub failed : HasRisenBy (call_faults (rows_of p more)) o.faults o'.faults
