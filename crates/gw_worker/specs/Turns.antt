-- How a connection goes on by one turn.
use Rattle.std.specs.Prelude.{◌≡◌, ℕ, ◌<◌, Bool, List, [], ◌∷◌, ◌++◌, map, None, Some, ⊤}
use Rattle.gw_answers.specs.model.Decisions.{forwards}
use Rattle.gw_answers.specs.model.Messages.{is_head}
use Rattle.gw_frames.specs.Inlets.{StandsFor as InletStandsFor, is_over}
use Rattle.gw_frames.specs.model.Requests.{Request, Step, ended}
use Rattle.gw_text.specs.model.Addresses.{Socket}
use Rattle.gw_text.specs.model.Filters.{Edits}
use Rattle.gw_worker.specs.Conns.{IsAllOf, IsAsking, IsSettled, StandsFor}
use Rattle.gw_worker.specs.Workers.{Decided, IsLeftOpen}
use Rattle.gw_worker.specs.declared.conn.Conn.{Conn}
use Rattle.gw_worker.specs.declared.conn.Stage.{Stage}
use Rattle.gw_worker.specs.declared.conn.Stage.TheVariants.{Reading, Asking, Answered, Ended as IsEnded}
use Rattle.gw_worker.specs.declared.conn.Turn.{Turn}
use Rattle.gw_worker.specs.declared.conn.Turn.TheVariants as turns
use Rattle.gw_worker.specs.model.Workers.{Worker}
use Rattle.gw_worker.specs.model.Sessions.{Handled, Part, Place, a_request, a_wait, a_refused, a_close, a_cut, decision_at, step_of}

-- What a turn writes.
abbrev pub text_of : Turn → List ℕ
text_of turns.Need = []
text_of (turns.Write text) = text
text_of (turns.Exchange to bytes head) = []
text_of (turns.Ended why) = []

-- No backend answered the requests among these yet, or none was asked.
abbrev pub AreUnanswered : List Part → Type 0
AreUnanswered [] = ⊤
AreUnanswered (a_request q h ∷ parts) = (h.answer ≡ None) × AreUnanswered parts
AreUnanswered (a_wait ∷ parts) = AreUnanswered parts
AreUnanswered (a_refused code ∷ parts) = AreUnanswered parts
AreUnanswered (a_close ∷ parts) = AreUnanswered parts
AreUnanswered (a_cut ∷ parts) = AreUnanswered parts

-- One request came, for which a backend is asked: what is sent, and where.
pub record IsExchange (p : Place) (more : List Part) (to : Socket) (bytes : List ℕ) (head : Bool) : Type 0 where
  pub request : Request
  pub handled : Handled
  pub edits : List Edits
  pub more_is : more ≡ a_request request handled ∷ []
  pub action : (decision_at p request handled).action ≡ forwards to bytes edits
  pub head_is : head ≡ is_head request

-- What a turn says: where more bytes are needed, and at the end, what came is all that the bytes give.
abbrev pub Says : Place → List ℕ → Bool → List Part → List Part → Turn → Type 0
Says p bytes over parts more turns.Need = IsAllOf bytes over (parts ++ more) × (ended (map step_of (parts ++ more)) ≡ None)
Says p bytes over parts more (turns.Write text) = ⊤
Says p bytes over parts more (turns.Exchange to sent head) = IsExchange p more to sent head
Says p bytes over parts more (turns.Ended why) = IsAllOf bytes over (parts ++ more) × (ended (map step_of (parts ++ more)) ≡ Some why)

-- The connection goes on by a turn: what came more of the bytes, and the worker decided the requests among that.
pub record Continues (p : Place) (before after : Worker) (c : Conn) (bytes : List ℕ) (parts : List Part) (text : List ℕ) (turn : Turn) : Type 0 where
  pub more : List Part
  pub stands : StandsFor c p bytes (parts ++ more) (text ++ text_of turn)
  pub decided : Decided p before after more
  pub unanswered : AreUnanswered more
  pub says : Says p bytes (is_over c.inlet) parts more turn

-- No turn was made, for want of memory or a place: what came more of the bytes is left open.
pub record IsStuck (p : Place) (before after : Worker) (c : Conn) (bytes : List ℕ) (parts : List Part) : Type 0 where
  pub steps : List Step
  pub inlet : InletStandsFor c.inlet bytes (map step_of parts ++ steps)
  pub left : IsLeftOpen p before after steps []

-- What comes behind a turn.
abbrev pub IsBehind : Turn → Stage → Type 0
IsBehind turns.Need stage = stage ≡ Reading
IsBehind (turns.Write text) stage = IsSettled stage
IsBehind (turns.Exchange to bytes head) stage = IsAsking stage
IsBehind (turns.Ended why) stage = stage ≡ IsEnded why

-- A turn that writes or asks leaves fewer of them.
abbrev pub LeavesFewer : Turn → ℕ → ℕ → Type 0
LeavesFewer turns.Need after before = ⊤
LeavesFewer (turns.Write text) after before = after < before
LeavesFewer (turns.Exchange to bytes head) after before = after < before
LeavesFewer (turns.Ended why) after before = ⊤

-- A turn that writes or asks.
abbrev pub IsActive : Turn → Type 0
IsActive turns.Need = ⊥
IsActive (turns.Write text) = ⊤
IsActive (turns.Exchange to bytes head) = ⊤
IsActive (turns.Ended why) = ⊥

abbrev pub IsWrite : Turn → Type 0
IsWrite turns.Need = ⊥
IsWrite (turns.Write text) = ⊤
IsWrite (turns.Exchange to bytes head) = ⊥
IsWrite (turns.Ended why) = ⊥

-- The reply for what a backend answered comes next.
abbrev pub IsReplying : Stage → Type 0
IsReplying Reading = ⊥
IsReplying (Asking a) = ⊥
IsReplying (Answered a answer) = ⊤
IsReplying (IsEnded why) = ⊥

-- A turn that writes the reply for what a backend answered.
abbrev pub IsReply : Place → Conn → List ℕ → List Part → List ℕ → Turn → Type 0
IsReply p c bytes parts text turns.Need = ⊥
IsReply p c bytes parts text (turns.Write reply) = StandsFor c p bytes parts (text ++ reply)
IsReply p c bytes parts text (turns.Exchange to sent head) = ⊥
IsReply p c bytes parts text (turns.Ended why) = ⊥
