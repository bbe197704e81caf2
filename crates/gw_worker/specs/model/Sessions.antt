-- What a connection comes to: for each of its requests, by which list of changes it was decided, what was picked, what the backend
-- answered, and what the client was written.
use Rattle.std.specs.Prelude.{ℕ, ◌+◌, List, [], ◌∷◌, ◌++◌, codes, get_or, length, Bool, true, Option, Some, None, Result, is_some}
use Rattle.std.specs.List.{flat_map}
use Rattle.gw_answers.specs.declared.books.Books.{Books}
use Rattle.gw_answers.specs.model.Decisions.{Action, Chosen, Decision, books_after, decision_of, forwards, replies}
use Rattle.gw_answers.specs.model.Messages.{is_head, reply_of}
use Rattle.gw_answers.specs.model.ServedRows.{ServedRow, fault_of, served_row, status_of}
use Rattle.gw_frames.specs.model.Requests.{Request, Step, an_ask, a_break, a_continue, a_refusal, an_end, end_behind}
use Rattle.gw_match.specs.model.Telling.{tables_of, world_after}
use Rattle.gw_replies.specs.declared.fault.BackendFault.{BackendFault}
use Rattle.gw_replies.specs.model.Responses.{Response}
use Rattle.gw_replies.specs.model.Written.{own}
use Rattle.gw_rows.specs.model.Rows.{Rows}
use Rattle.gw_store.specs.declared.event.Entry.{Entry}
use Rattle.gw_text.specs.model.Doors.{Door}

-- Where a connection came in: the doors, the controller's name, and the door's number.
pub record Place : Type 0 where
  pub doors : List Door
  pub controller : List ℕ
  pub door : ℕ

-- What a backend answered: a response, or why there is none.
abbrev pub Answer : Type 0
Answer = Result Response BackendFault

-- How a request was decided: the list of changes for which the tables stood, the books as they stood before its picks, and what the
-- backend answered, where it was asked and has answered.
pub record Handled : Type 0 where
  pub changes : List Entry
  pub books : Books
  pub answer : Option Answer

-- A door without rows.
abbrev pub no_rows : Rows
no_rows = record { listeners = []; rows = [] }

-- The rows of the door in the world after changes.
abbrev pub rows_after : Place → List Entry → Rows
rows_after p changes = get_or (tables_of p.doors p.controller (world_after changes)) p.door no_rows

-- What was done about a request.
abbrev pub decision_at : Place → Request → Handled → Decision
decision_at p q h = decision_of (rows_after p h.changes) q h.books

-- The books after its picks.
abbrev pub books_at : Place → Request → Handled → Books
books_at p q h = books_after (rows_after p h.changes) q h.books

-- The row of a request; one that a backend hasn't answered has none yet.
abbrev pub row_by : ℕ → Chosen → Action → Option Answer → List ServedRow
row_by front chosen (replies code location fault) answer = served_row front chosen code fault ∷ []
row_by front chosen (forwards to bytes edits) None = []
row_by front chosen (forwards to bytes edits) (Some a) = served_row front chosen (status_of a) (fault_of a) ∷ []

-- The bytes of its reply: this program's own, or what the backend answered. The last one of the connection says so.
abbrev pub reply_by : Action → Option Answer → Bool → Bool → List ℕ
reply_by (replies code location fault) answer head last = own code location fault last
reply_by (forwards to bytes edits) None head last = []
reply_by (forwards to bytes edits) (Some a) head last = reply_of edits a head last

-- The connection ends behind the request of this number: it asks for that, or is the 1,000th. Source: RFC 9112 section 9.6.
abbrev pub is_last : ℕ → Request → Bool
is_last number q = is_some (end_behind number q)

-- What came of a connection's bytes, one after the other: a request, and how it was decided; the answer 100, for which a request
-- waited; a refusal; an end; an end inside a request.
pub data Part : Type 0 where
  a_request : Request → Handled → Part
  a_wait : Part
  a_refused : ℕ → Part
  a_close : Part
  a_cut : Part

-- The step of the bytes that it is.
abbrev pub step_of : Part → Step
step_of (a_request q h) = an_ask q
step_of a_wait = a_continue
step_of (a_refused code) = a_refusal code
step_of a_close = an_end
step_of a_cut = a_break

-- Its row.
abbrev pub row_of : Place → Part → List ServedRow
row_of p (a_request q h) = row_by (length h.changes) (decision_at p q h).chosen (decision_at p q h).action h.answer
row_of p a_wait = []
row_of p (a_refused code) = []
row_of p a_close = []
row_of p a_cut = []

-- The rows of the requests, in their order.
abbrev pub rows_of : Place → List Part → List ServedRow
rows_of p parts = flat_map (row_of p) parts

-- How many requests there are, where so many came before.
abbrev pub asks_behind : ℕ → List Part → ℕ
asks_behind count [] = count
asks_behind count (a_request q h ∷ parts) = asks_behind (count + 1) parts
asks_behind count (a_wait ∷ parts) = asks_behind count parts
asks_behind count (a_refused code ∷ parts) = asks_behind count parts
asks_behind count (a_close ∷ parts) = asks_behind count parts
asks_behind count (a_cut ∷ parts) = asks_behind count parts

-- The answer 100. Source: RFC 9110 section 15.2.1.
abbrev pub continue_text : List ℕ
continue_text = codes "HTTP/1.1 100 Continue" ++ 13 ∷ 10 ∷ 13 ∷ 10 ∷ []

-- What is written, behind so many requests: the answer 100 where a request waits for it, a reply for each request, and the reply of a
-- refusal, behind which the connection ends.
abbrev pub written_behind : Place → ℕ → List Part → List ℕ
written_behind p count [] = []
written_behind p count (a_request q h ∷ parts) =
    reply_by (decision_at p q h).action h.answer (is_head q) (is_last (count + 1) q) ++ written_behind p (count + 1) parts
written_behind p count (a_wait ∷ parts) = continue_text ++ written_behind p count parts
written_behind p count (a_refused code ∷ parts) = own code None None true ++ written_behind p count parts
written_behind p count (a_close ∷ parts) = written_behind p count parts
written_behind p count (a_cut ∷ parts) = written_behind p count parts

-- What is written on a connection.
abbrev pub written : Place → List Part → List ℕ
written p parts = written_behind p 0 parts
