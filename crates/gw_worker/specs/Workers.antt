-- What a worker's requests are decided by: each by what its pass has seen then, and by the books behind the requests before it.
use Rattle.std.specs.Prelude.{◌≡◌, ◌⊎◌, ℕ, List, [], ◌∷◌, take, None}
use Rattle.gw_answers.specs.Left.{AreLeft}
use Rattle.gw_answers.specs.model.Decisions.{forwards}
use Rattle.gw_frames.specs.model.Requests.{Request, Step, a_break, a_continue, a_refusal, an_ask, an_end}
use Rattle.gw_link.specs.Exchanges.{Exchange}
use Rattle.gw_snap.specs.Lists.{BeginsWith}
use Rattle.gw_text.specs.model.Addresses.{Socket}
use Rattle.gw_text.specs.model.Filters.{Edits}
use Rattle.gw_worker.specs.model.Workers.{Worker}
use Rattle.gw_worker.specs.model.Sessions.{Handled, Part, Place, a_close, a_cut, a_refused, a_request, a_wait, books_at, decision_at}

-- A worker's tables are those of the place.
pub record IsAt (w : Worker) (p : Place) : Type 0 where
  pub doors : w.pass.fixed.0 ≡ p.doors
  pub controller : w.pass.fixed.1 ≡ p.controller

-- How a worker decided a request that no backend answered yet.
abbrev pub handled_by : Worker → Worker → Handled
handled_by before after = record { changes = after.pass.seen; books = before.books; answer = None }

-- A worker decides one request: by what its pass has seen from now on, which begins with what it had seen. Of the pass nothing else
-- changes.
pub record Decides (p : Place) (before after : Worker) (q : Request) (h : Handled) : Type 0 where
  pub pass : after.pass ≡ record before.pass { seen = h.changes }
  pub later : BeginsWith before.pass.seen h.changes
  pub books : h.books ≡ before.books
  pub counted : after.books ≡ books_at p q h

-- A worker decides the requests among these, one after the other, and nothing else changes it.
abbrev pub Decided : Place → Worker → Worker → List Part → Type 0
Decided p before after [] = after ≡ before
Decided p before after (a_request q h ∷ parts) = (middle : Worker) × (Decides p before middle q h × Decided p middle after parts)
Decided p before after (a_wait ∷ parts) = Decided p before after parts
Decided p before after (a_refused code ∷ parts) = Decided p before after parts
Decided p before after (a_close ∷ parts) = Decided p before after parts
Decided p before after (a_cut ∷ parts) = Decided p before after parts

-- A worker whose request came to nothing: its pass has seen what it had seen, or more, and may have been refused, and nothing else of it
-- changes; each of the books is as before, as that request leaves it, or empty.
pub record IsLeftBy (p : Place) (before after : Worker) (q : Request) : Type 0 where
  pub pass : after.pass ≡ record before.pass { seen = after.pass.seen; refused = after.pass.refused }
  pub later : BeginsWith before.pass.seen after.pass.seen
  pub books : AreLeft before.books (books_at p q (handled_by before after)) after.books

-- A request was decided, and one exchange made for it, at the socket to which it goes: a front of its bytes was sent.
pub record IsSent (p : Place) (before after : Worker) (q : Request) (met : List Exchange) : Type 0 where
  pub to : Socket
  pub bytes : List ℕ
  pub edits : List Edits
  pub exchange : Exchange
  pub count : ℕ
  pub action : (decision_at p q (handled_by before after)).action ≡ forwards to bytes edits
  pub counted : after.books ≡ books_at p q (handled_by before after)
  pub met_is : met ≡ exchange ∷ []
  pub at : exchange.to ≡ to
  pub sent : exchange.sent ≡ take count bytes

-- A worker whose request came to nothing, and what was exchanged for it: nothing, or once what was decided.
pub record IsUndone (p : Place) (before after : Worker) (q : Request) (met : List Exchange) : Type 0 where
  pub left : IsLeftBy p before after q
  pub once : (met ≡ []) ⊎ IsSent p before after q met

-- What is left open of a connection's steps, and what was exchanged for that: nothing; or one step that is no request, by which the
-- worker is as before; or one request that came to nothing.
abbrev pub IsLeftOpen : Place → Worker → Worker → List Step → List Exchange → Type 0
IsLeftOpen p before after [] met = (after ≡ before) × (met ≡ [])
IsLeftOpen p before after (an_ask q ∷ []) met = IsUndone p before after q met
IsLeftOpen p before after (a_continue ∷ []) met = (after ≡ before) × (met ≡ [])
IsLeftOpen p before after (a_refusal code ∷ []) met = (after ≡ before) × (met ≡ [])
IsLeftOpen p before after (an_end ∷ []) met = (after ≡ before) × (met ≡ [])
IsLeftOpen p before after (a_break ∷ []) met = (after ≡ before) × (met ≡ [])
IsLeftOpen p before after (first ∷ (second ∷ steps)) met = ⊥
