-- What a polled connection has come to over all its polls, and how one poll continues that.
use Rattle.std.specs.Prelude.{◌≡◌, ℕ, ◌⊎◌, ◌+◌, ◌≤◌, Bool, true, false, List, [], ◌∷◌, ◌++◌, length, map, take, Option, None, IfSome}
use Rattle.gw_answers.specs.model.ServedRows.{ServedRow}
use Rattle.gw_exchange.specs.declared.backend.TheConstants.{MOST_PIECE}
use Rattle.gw_frames.specs.Inlets.{StandsFor as InletStandsFor}
use Rattle.gw_frames.specs.declared.ended.Ended.{Ended}
use Rattle.gw_frames.specs.declared.inlet.Inlet.{Inlet}
use Rattle.gw_frames.specs.model.Requests.{Step, ended}
use Rattle.gw_link.specs.Exchanges.{Exchange}
use Rattle.gw_link.specs.Pieces.{Gives, IsAtEnd, Takes}
use Rattle.gw_link.specs.declared.order.UpstreamCall.{UpstreamCall}
use Rattle.gw_message_laws.specs.declared.requests.TheConstants.{MOST_OPEN_BYTES}
use Rattle.gw_poll_exchange.specs.Polled.{TellsOn}
use Rattle.gw_snap.specs.Lists.{BeginsWith}
use Rattle.gw_text.specs.model.Addresses.{Socket}
use Rattle.gw_worker.specs.Conns.{AreWhole, IsAllOf}
use Rattle.gw_worker.specs.Exchanges.{AreRefused, Exchanged, HasRisenBy, call_faults}
use Rattle.gw_worker.specs.Flows.{Outside}
use Rattle.gw_worker.specs.Turns.{IsExchange}
use Rattle.gw_worker.specs.Workers.{Decided, IsLeftOpen}
use Rattle.gw_worker.specs.model.Sessions.{Part, Place, a_close, a_cut, a_refused, a_request, a_wait, rows_of, step_of, written}
use Rattle.gw_worker.specs.model.Workers.{Worker}

-- A history of a connection.
pub record History : Type 0 where
  -- the bytes that were read, and whether they ended
  pub bytes : List ℕ
  pub over : Bool
  -- what came of them and has its reply, and what was exchanged for that
  pub parts : List Part
  pub met : List Exchange
  -- the request for which a backend is asked now, where one is, and what was exchanged for it so far
  pub asked : List Part
  pub begun : List Exchange
  -- what was written
  pub text : List ℕ

-- Nothing came yet.
abbrev pub no_history : History
no_history = record { bytes = []; over = false; parts = []; met = []; asked = []; begun = []; text = [] }

-- No call of an upstream failed.
abbrev pub no_call : UpstreamCall → Socket → Type 0
no_call call to = ⊥

-- A request as it was decided, without what a backend answered.
abbrev pub bare : Part → Part
bare (a_request q h) = a_request q (record h { answer = None })
bare a_wait = a_wait
bare (a_refused code) = a_refused code
bare a_close = a_close
bare a_cut = a_cut

-- The most bytes that are ever read of a connection: as many as one may have that hasn't ended, and one piece.
abbrev pub most_read : ℕ
most_read = MOST_OPEN_BYTES + MOST_PIECE

-- A history goes on: further bytes are read, of which all together are few, and further ones written; more came of the bytes and has its
-- reply; `fresh` is what came in this stretch, each request of it decided by the worker; what is exchanged stands where it stood, or behind
-- it, whatever the upstream tells in front of what was begun; and as many calls of the upstream failed at least as there are new rows with
-- such a fault, each at its row's socket.
pub record Went (refuses : UpstreamCall → Socket → Type 0) (p : Place) (w w' : Worker) (h h' : History) (left left' : Option (List ℕ)) (o o' : Outside) : Type 0 where
  pub read : List ℕ
  pub wrote : List ℕ
  pub came : List Part
  pub fresh : List Part
  pub bytes_are : h'.bytes ≡ h.bytes ++ read
  pub few : (h'.bytes ≡ h.bytes) ⊎ (length h'.bytes ≤ most_read)
  pub text_is : h'.text ≡ h.text ++ wrote
  pub parts_are : h'.parts ≡ h.parts ++ came
  pub taken : Gives left read left'
  pub ends : h'.over ≡ true → (h.over ≡ true) ⊎ IfSome left (λ told. IsAtEnd left')
  pub written : Takes o.written wrote o'.written
  pub fresh_are : map bare (came ++ h'.asked) ≡ map bare h.asked ++ map bare fresh
  pub decided : Decided p w w' fresh
  pub refused : AreRefused refuses p came
  pub met_are : BeginsWith h.met h'.met
  pub rest : List Exchange
  pub rest_is : h'.met ++ h'.begun ≡ h.met ++ rest
  pub told : TellsOn h.begun rest o.exchanges o'.exchanges
  pub failed : HasRisenBy (call_faults (rows_of p came)) o.faults o'.faults

-- A history is a whole session of the bytes read: what came is all that they give, with one row for each request, each whole and
-- exchanged, and all that is to be written is written. Where it has no end, further bytes may come.
pub record IsSession (p : Place) (h : History) (rows : List ServedRow) (end : Option Ended) : Type 0 where
  pub is_all : IsAllOf h.bytes h.over h.parts
  pub ends : ended (map step_of h.parts) ≡ end
  pub rows_are : rows ≡ rows_of p h.parts
  pub whole : AreWhole p h.parts
  pub exchanged : Exchanged p h.parts h.met
  pub text_is : h.text ≡ written p h.parts
  pub unasked : h.asked ≡ []
  pub unbegun : h.begun ≡ []

-- What was exchanged for a request that has no answer: nothing, or one exchange at its socket, in which a front of its bytes was sent.
abbrev pub IsBegun : Place → List Part → List Exchange → Type 0
IsBegun p asked begun =
    (begun ≡ []) ⊎ ((to : Socket) × ((bytes : List ℕ) × ((head : Bool) × ((e : Exchange) × ((n : ℕ) ×
    (IsExchange p asked to bytes head × (begun ≡ e ∷ []) × (e.to ≡ to) × (e.sent ≡ take n bytes)))))))

-- A connection was given up behind this history. Its rows are those of what has its reply, and a front of that is written. What came
-- behind is left open: the request for which a backend was asked, or at most one step, for which nothing is exchanged.
pub record IsBroken (refuses : UpstreamCall → Socket → Type 0) (p : Place) (w w' : Worker) (inlet : Inlet) (rows : List ServedRow) (h h' : History) (left left' : Option (List ℕ)) (o o' : Outside) : Type 0 where
  pub middle : Worker
  pub fed : List ℕ
  pub steps : List Step
  pub went : Went refuses p w middle h h' left left' o o'
  pub begins : BeginsWith fed h'.bytes
  pub first : InletStandsFor inlet fed (map step_of (h'.parts ++ h'.asked) ++ steps)
  pub left_open : IsLeftOpen p middle w' steps []
  pub rows_are : rows ≡ rows_of p h'.parts
  pub whole : AreWhole p h'.parts
  pub exchanged : Exchanged p h'.parts h'.met
  pub is_front : BeginsWith h'.text (written p h'.parts)
  pub begun : IsBegun p h'.asked h'.begun
