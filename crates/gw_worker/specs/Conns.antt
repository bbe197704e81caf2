-- What a connection stands for: the bytes that came, what came of them, and what was written.
use Rattle.std.specs.Prelude.{◌≡◌, ℕ, ◌+◌, ◌*◌, ◌≤◌, Bool, false, List, [], ◌∷◌, ◌++◌, length, map, Option, Some, None, ⊤}
use Rattle.gw_answers.specs.model.Decisions.{Action, forwards, replies}
use Rattle.gw_answers.specs.model.Messages.{is_head}
use Rattle.gw_answers.specs.model.ServedRows.{ServedRow}
use Rattle.gw_frames.specs.Inlets.{StandsFor as InletStandsFor, is_over, steps_left}
use Rattle.gw_frames.specs.declared.inlet.Inlet.{Inlet}
use Rattle.gw_frames.specs.model.Requests.{Asks, Request, Step, a_head, ended}
use Rattle.gw_message_laws.specs.declared.requests.TheConstants.{MOST_OPEN_BYTES}
use Rattle.gw_text.specs.model.Addresses.{Socket}
use Rattle.gw_worker.specs.declared.conn.Asked.{Asked}
use Rattle.gw_worker.specs.declared.conn.Conn.{Conn}
use Rattle.gw_worker.specs.declared.conn.Stage.{Stage}
use Rattle.gw_worker.specs.declared.conn.Stage.TheVariants.{Reading, Asking, Answered, Ended as IsEnded}
use Rattle.gw_worker.specs.model.Sessions.{Answer, Handled, Part, Place, a_request, a_wait, a_refused, a_close, a_cut, asks_behind, decision_at, is_last, rows_of, step_of, written}

-- A request has its reply: its own, or one for what the backend answered.
abbrev pub IsReplied : Action → Option Answer → Type 0
IsReplied (replies code location fault) answer = ⊤
IsReplied (forwards to bytes edits) None = ⊥
IsReplied (forwards to bytes edits) (Some a) = ⊤

abbrev pub IsWhole : Place → Part → Type 0
IsWhole p (a_request q h) = IsReplied (decision_at p q h).action h.answer
IsWhole p a_wait = ⊤
IsWhole p (a_refused code) = ⊤
IsWhole p a_close = ⊤
IsWhole p a_cut = ⊤

-- Each of them.
abbrev pub AreWhole : Place → List Part → Type 0
AreWhole p [] = ⊤
AreWhole p (part ∷ parts) = IsWhole p part × AreWhole p parts

-- All that came has its rows, and its replies are written.
pub record AreServed (p : Place) (rows : List ServedRow) (parts : List Part) (text : List ℕ) : Type 0 where
  pub rows_are : rows ≡ rows_of p parts
  pub text_is : text ≡ written p parts
  pub whole : AreWhole p parts

-- How a request of this number is decided, what is kept of that, and whether the connection ends behind it.
pub record IsAsked (p : Place) (a : Asked) (number : ℕ) (q : Request) (h : Handled) : Type 0 where
  pub to : Socket
  pub bytes : List ℕ
  pub action : (decision_at p q h).action ≡ forwards to bytes a.edits
  pub chosen : a.chosen ≡ (decision_at p q h).chosen
  pub front : a.front ≡ length h.changes
  pub head : a.head ≡ is_head q
  pub last : a.last ≡ is_last number q

-- The last of the parts is a request for which a backend was asked, with this answer; all before it are served.
pub record IsOpen (p : Place) (a : Asked) (answer : Option Answer) (rows : List ServedRow) (parts : List Part) (text : List ℕ) : Type 0 where
  pub front : List Part
  pub request : Request
  pub handled : Handled
  pub parts_are : parts ≡ front ++ a_request request handled ∷ []
  pub answer_is : handled.answer ≡ answer
  pub asked : IsAsked p a (asks_behind 0 front + 1) request handled
  pub served : AreServed p rows front text
  pub unended : ended (map step_of parts) ≡ None

-- The same with a backend's answer, where it is a request.
abbrev pub with_answer : Answer → Part → Part
with_answer a (a_request q h) = a_request q (record h { answer = Some a })
with_answer a a_wait = a_wait
with_answer a (a_refused code) = a_refused code
with_answer a a_close = a_close
with_answer a a_cut = a_cut

-- By what the connection does next.
abbrev pub Serves : Stage → Place → List ServedRow → List Part → List ℕ → Type 0
Serves Reading p rows parts text = AreServed p rows parts text × (ended (map step_of parts) ≡ None)
Serves (Asking a) p rows parts text = IsOpen p a None rows parts text
Serves (Answered a answer) p rows parts text = IsOpen p a (Some answer) rows parts text
Serves (IsEnded why) p rows parts text = AreServed p rows parts text × (ended (map step_of parts) ≡ Some why)

-- A connection stands for the bytes that came, what came of them, and what was written.
pub record StandsFor (c : Conn) (p : Place) (bytes : List ℕ) (parts : List Part) (text : List ℕ) : Type 0 where
  pub door : c.door ≡ p.door
  pub inlet : InletStandsFor c.inlet bytes (map step_of parts)
  pub serves : Serves c.stage p c.rows parts text

-- The bytes gave one step more, of which nothing came yet.
pub record StandsBehind (c : Conn) (p : Place) (bytes : List ℕ) (parts : List Part) (step : Step) (text : List ℕ) : Type 0 where
  pub door : c.door ≡ p.door
  pub inlet : InletStandsFor c.inlet bytes (map step_of parts ++ step ∷ [])
  pub served : AreServed p c.rows parts text
  pub unended : ended (map step_of parts) ≡ None

-- What came is all that the bytes give.
abbrev pub IsAllOf : List ℕ → Bool → List Part → Type 0
IsAllOf bytes over parts = Asks a_head 0 bytes over (map step_of parts)

-- No answer of a backend is missing.
abbrev pub IsAnswered : Stage → Type 0
IsAnswered Reading = ⊤
IsAnswered (Asking a) = ⊥
IsAnswered (Answered a answer) = ⊤
IsAnswered (IsEnded why) = ⊤

-- An answer of a backend is missing.
abbrev pub IsAsking : Stage → Type 0
IsAsking Reading = ⊥
IsAsking (Asking a) = ⊤
IsAsking (Answered a answer) = ⊥
IsAsking (IsEnded why) = ⊥

-- Nothing is open: each request that came has its reply.
abbrev pub IsSettled : Stage → Type 0
IsSettled Reading = ⊤
IsSettled (Asking a) = ⊥
IsSettled (Answered a answer) = ⊥
IsSettled (IsEnded why) = ⊤

-- An inlet goes on: it stands for the same bytes, and gave no step or some more.
abbrev pub GoesOn : Inlet → Inlet → Type 0
GoesOn i j = (bytes : List ℕ) (steps : List Step) → InletStandsFor i bytes steps → (rest : List Step) × InletStandsFor j bytes (steps ++ rest)

-- These are the bytes that came.
abbrev pub IsFed : Conn → List ℕ → Type 0
IsFed c bytes = (steps : List Step) × InletStandsFor c.inlet bytes steps

-- Further bytes may come, and there are no more so far than a connection has that hasn't ended.
abbrev pub IsUnfinished : Conn → List ℕ → Type 0
IsUnfinished c bytes = (is_over c.inlet ≡ false) × (length bytes ≤ MOST_OPEN_BYTES)

-- Nothing is asked for or ended, and further bytes may come: so far each call of the connection asked for more.
pub record IsServing (c : Conn) : Type 0 where
  pub bytes : List ℕ
  pub fed : IsFed c bytes
  pub reading : c.stage ≡ Reading
  pub unfinished : is_over c.inlet ≡ false

-- How many turns that write or ask are left at most: two for each step of the bytes, and those of the request that is open.
abbrev pub turns_of : Stage → ℕ
turns_of Reading = 1
turns_of (Asking a) = 2
turns_of (Answered a answer) = 2
turns_of (IsEnded why) = 0

abbrev pub turns_left : Conn → ℕ
turns_left c = 2 * steps_left c.inlet + turns_of c.stage
