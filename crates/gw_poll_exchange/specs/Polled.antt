-- What an exchange that is polled stands for: what was exchanged so far. And what a poll makes of it.
use Rattle.std.specs.Prelude.{◌≡◌, ℕ, ◌<◌, ◌≤◌, List, [], ◌∷◌, ◌++◌, length, take, Bool, false, Option, Some, None, Result, ⊤}
use Rattle.gw_exchange.specs.Exchanged.{Comes, Exchanged, exchanged}
use Rattle.gw_exchange.specs.declared.fault.ExchangeFault.{ExchangeFault}
use Rattle.gw_link.specs.Exchanges.{Exchange}
use Rattle.gw_replies.specs.Replies.{StandsFor as ReaderStandsFor}
use Rattle.gw_replies.specs.declared.reader.ReplyReader.{ReplyReader}
use Rattle.gw_replies.specs.model.Responses.{Response, ResponseOf, a_need}
use Rattle.gw_text.specs.model.Addresses.{Socket}
use Rattle.gw_poll_exchange.specs.declared.polled.PolledExchange.{PolledExchange}
use Rattle.gw_poll_exchange.specs.declared.polled.Stage.{Stage}
use Rattle.gw_poll_exchange.specs.declared.polled.Stage.TheVariants.{Connecting, Connected}

-- A reader of a response was given these bytes, which are no whole response yet and haven't ended.
pub record Reads (reader : ReplyReader) (head : Bool) (given : List ℕ) : Type 0 where
  pub stands : ReaderStandsFor head reader given None
  pub unended : reader.over ≡ false
  pub need : ResponseOf head given false a_need

-- What was exchanged over a connection so far: a front of the bytes was sent; and while not all were, nothing is given.
pub record IsOpen (x : PolledExchange) (met : List Exchange) : Type 0 where
  pub given : List ℕ
  pub reads : Reads x.reader x.head given
  pub within : x.sent ≤ length x.bytes
  pub first : x.sent < length x.bytes → given ≡ []
  pub met_is : met ≡ exchanged x.to (take x.sent x.bytes) given false ∷ []

-- Nothing was exchanged.
pub record IsUnopened (x : PolledExchange) (met : List Exchange) : Type 0 where
  pub reads : Reads x.reader x.head []
  pub unsent : x.sent ≡ 0
  pub met_is : met ≡ []

-- What was exchanged so far: nothing before a connection is opened, else the one exchange over it.
abbrev pub StandsAt : Stage → PolledExchange → List Exchange → Type 0
StandsAt Connecting x met = IsUnopened x met
StandsAt Connected x met = IsOpen x met

abbrev pub StandsFor : PolledExchange → List Exchange → Type 0
StandsFor x met = StandsAt x.stage x met

-- Where a connection was opened, the upstream has it: with this socket.
abbrev pub IsJoined : Stage → Option Socket → Socket → Type 0
IsJoined Connecting at to = ⊤
IsJoined Connected at to = at ≡ Some to

-- What is told now has these exchanges where it had those before; what is told before them stays.
abbrev pub TellsOn : List Exchange → List Exchange → Option (List Exchange) → Option (List Exchange) → Type 0
TellsOn met met' before after = (earlier : List Exchange) → before ≡ Some (earlier ++ met) → after ≡ Some (earlier ++ met')

-- The exchange came to its end: to this, by what was exchanged.
abbrev pub CameTo : PolledExchange → List Exchange → Result Response ExchangeFault → Type 0
CameTo x met result = Exchanged x.to x.bytes x.head (Some []) (Some met) result

-- It goes on: the same bytes are sent to the same socket, and what is told is what was exchanged so far.
pub record GoesOn (x x' : PolledExchange) (met : List Exchange) (before after : Option (List Exchange)) : Type 0 where
  pub met' : List Exchange
  pub stands : StandsFor x' met'
  pub told : TellsOn met met' before after

-- It is over: what is told is what was exchanged, and it came to this.
pub record IsOver (x : PolledExchange) (met : List Exchange) (before after : Option (List Exchange)) (result : Result Response ExchangeFault) : Type 0 where
  pub met' : List Exchange
  pub came : CameTo x met' result
  pub told : TellsOn met met' before after

-- An exchange over which all was sent is told with further bytes given.
abbrev pub TellsMore : List ℕ → List ℕ → Bool → Option (List Exchange) → Option (List Exchange) → Type 0
TellsMore given given' ended before after =
    (to : Socket) (sent : List ℕ) → TellsOn (exchanged to sent given false ∷ []) (exchanged to sent given' ended ∷ []) before after

-- Further bytes were given, and they are no whole response yet.
pub record ReadsOn (reader : ReplyReader) (head : Bool) (given : List ℕ) (before after : Option (List Exchange)) : Type 0 where
  pub more : List ℕ
  pub reads : Reads reader head (given ++ more)
  pub told : TellsMore given (given ++ more) false before after

-- Further bytes were given, and with them the response comes to this: at most 64 MiB and one piece.
pub record ReadsTo (head : Bool) (given : List ℕ) (before after : Option (List Exchange)) (result : Result Response ExchangeFault) : Type 0 where
  pub more : List ℕ
  pub ended : Bool
  pub came : Comes head (given ++ more) ended result
  pub few : length (given ++ more) ≤ 67117056
  pub told : TellsMore given (given ++ more) ended before after
