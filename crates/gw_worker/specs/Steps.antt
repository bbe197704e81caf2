-- What one step of a connection's bytes comes to.
use Rattle.std.specs.Prelude.{◌≡◌, ℕ, ◌+◌, Bool, List, [], ◌∷◌, ◌++◌, length, None}
use Rattle.gw_answers.specs.model.Decisions.{Decision}
use Rattle.gw_answers.specs.model.Messages.{is_head}
use Rattle.gw_frames.specs.Inlets.{is_over}
use Rattle.gw_frames.specs.model.Requests.{Request}
use Rattle.gw_worker.specs.Conns.{StandsFor}
use Rattle.gw_worker.specs.Turns.{Says, text_of}
use Rattle.gw_worker.specs.declared.conn.Conn.{Conn}
use Rattle.gw_worker.specs.declared.conn.Turn.{Turn}
use Rattle.gw_worker.specs.model.Sessions.{Handled, Part, Place, asks_behind, decision_at, is_last}

-- All that the reply or the exchange of a request is made by.
pub record IsReady (p : Place) (parts : List Part) (q : Request) (h : Handled) (front : ℕ) (d : Decision) (head last : Bool) : Type 0 where
  pub decision : d ≡ decision_at p q h
  pub front_is : front ≡ length h.changes
  pub head_is : head ≡ is_head q
  pub last_is : last ≡ is_last (asks_behind 0 parts + 1) q
  pub unanswered : h.answer ≡ None

-- One thing more came of the bytes, and the turn says so.
pub record Came (p : Place) (c : Conn) (bytes : List ℕ) (parts : List Part) (text : List ℕ) (part : Part) (turn : Turn) : Type 0 where
  pub stands : StandsFor c p bytes (parts ++ part ∷ []) (text ++ text_of turn)
  pub says : Says p bytes (is_over c.inlet) parts (part ∷ []) turn
