-- What comes of a script: each line does its step on what stands after the lines before it.
use Rattle.std.specs.Prelude.{◌≡◌, ℕ, ℤ, ◌+◌, ◌==◌, List, [], ◌∷◌, ◌++◌, length, map, replicate, set, slice_get, bytes_eq, Bool, true, false, Option, Some, None, Result, Ok, Err, ⊤}
use Rattle.std.specs.Map.{update}
use Rattle.gw_answers.specs.declared.books.Books.{Books}
use Rattle.gw_answers.specs.model.Decisions.{Action, forwards, replies}
use Rattle.gw_answers.specs.model.Messages.{is_head}
use Rattle.gw_frames.specs.declared.ended.Ended.{Ended}
use Rattle.gw_frames.specs.model.Requests.{ended}
use Rattle.gw_json.specs.Lines.{line_of}
use Rattle.gw_json.specs.Refusals.{refusal_number, refusal_path}
use Rattle.gw_json.specs.declared.refusal.Refusal.{Refusal}
use Rattle.gw_link.specs.Upstreams.{answer_at, fails_at}
use Rattle.gw_link.specs.declared.order.Order.{Order}
use Rattle.gw_link.specs.declared.order.Order.TheVariants.{Answers, Fails}
use Rattle.gw_link.specs.declared.order.UpstreamCall.TheVariants as calls
use Rattle.gw_match.specs.model.Telling.{change_of, world_after}
use Rattle.gw_replies.specs.declared.fault.BackendFault.TheVariants.{Open, Send, Receive}
use Rattle.gw_replies.specs.model.Responses.{Outcome, ResponseOf, a_fault, a_response}
use Rattle.gw_store.specs.Lines.{is_blank}
use Rattle.gw_report.specs.RunText.{refused_object}
use Rattle.gw_script.specs.Refusals.{step_refusal_number, step_refusal_path}
use Rattle.gw_script.specs.Scripts.{step_of}
use Rattle.gw_script.specs.Steps.{Step, an_event, a_publication, a_beginning, a_sending, an_end, an_answer, a_failure}
use Rattle.gw_script.specs.declared.refusal.StepRefusal.{StepRefusal}
use Rattle.gw_script.specs.declared.refusal.StepRefusal.TheVariants.{NotStep}
use Rattle.gw_store.specs.Events.{Read, a_change, is_skipped, answer}
use Rattle.gw_store.specs.declared.event.Entry.{Entry}
use Rattle.gw_text.specs.model.Addresses.{Socket}
use Rattle.gw_text.specs.model.Doors.{Door}
use Rattle.gw_worker.specs.Conns.{IsAllOf}
use Rattle.gw_worker.specs.model.Sessions.{Answer, Part, Place, a_close, a_cut, a_refused, a_request, a_wait, books_at, decision_at, rows_of, written, step_of as bytes_step}
use Rattle.gw_replay.specs.Lines.{front_data, rows_text, written_text, end_text, totals_data}

-- An open connection: its worker and its door, by their numbers; the bytes that came; what came of them; and what was written.
pub record Client : Type 0 where
  pub worker : ℕ
  pub door : ℕ
  pub bytes : List ℕ
  pub parts : List Part
  pub text : List ℕ

-- What stands after some lines.
pub record State : Type 0 where
  -- the changes that were taken, and those of them that are published
  pub changes : List Entry
  pub published : List Entry
  -- the picks of each worker so far
  pub workers : List Books
  -- the open connection of each name
  pub clients : List ℕ → Option Client
  -- what the backends do, in the order in which that was said
  pub orders : List Order
  -- the status of each row, in their order
  pub statuses : List ℕ
  pub refused : ℕ
  pub skipped : ℕ

-- The doors and the controller's name.
pub record Site : Type 0 where
  pub doors : List Door
  pub controller : List ℕ

abbrev pub place_at : Site → ℕ → Place
place_at site door = record { doors = site.doors; controller = site.controller; door = door }

-- A worker that picked nothing.
abbrev pub no_picks : Books
no_picks = record { backends = []; endpoints = [] }

-- Before the first line, with so many workers.
abbrev pub beginning : ℕ → State
beginning workers = record {
  changes = [];
  published = [];
  workers = replicate workers no_picks;
  clients = λ name. None;
  orders = [];
  statuses = [];
  refused = 0;
  skipped = 0;
}

-- A line is refused: that is written and counted, and all else stays.
pub record IsRefused (line refusal : ℕ) (path : Option (List ℕ)) (s s' : State) (text : List ℕ) : Type 0 where
  pub state : s' ≡ record s { refused = s.refused + 1 }
  pub text_is : text ≡ line_of (refused_object line refusal path)

-- A line that has no form of a step.
abbrev pub IsNoStep : ℕ → State → State → List ℕ → Type 0
IsNoStep line s s' text = IsRefused line (step_refusal_number NotStep) (step_refusal_path NotStep) s s' text

-- An event that came at a moment, by what its line is answered over the world of the changes so far: one change more, nothing, or a
-- refusal.
abbrev pub EventDone : ℕ → ℤ → Result Read Refusal → State → State → List ℕ → Type 0
EventDone line at (Ok (a_change event)) s s' text =
    (entry : Entry) × ((change_of entry ≡ record { event = event; at = at }) × (s' ≡ record s { changes = s.changes ++ entry ∷ [] }) × (text ≡ []))
EventDone line at (Ok is_skipped) s s' text = (s' ≡ record s { skipped = s.skipped + 1 }) × (text ≡ [])
EventDone line at (Err e) s s' text = IsRefused line (refusal_number e) (refusal_path e) s s' text

-- All changes are published, and every worker learns of that: from then on its requests are decided by them.
pub record Publishes (line : ℕ) (s s' : State) (text : List ℕ) : Type 0 where
  pub state : s' ≡ record s { published = s.changes }
  pub text_is : text ≡ line_of (front_data (length s.changes) line)

-- A connection of which no byte came yet.
abbrev pub new_client : ℕ → ℕ → Client
new_client worker door = record { worker = worker; door = door; bytes = []; parts = []; text = [] }

-- A connection begins, unless one of its name is open.
abbrev pub Begins : ℕ → List ℕ → ℕ → ℕ → Option Client → State → State → List ℕ → Type 0
Begins line name worker door None s s' text =
    (s' ≡ record s { clients = update bytes_eq s.clients name (Some (new_client worker door)) }) × (text ≡ [])
Begins line name worker door (Some client) s s' text = IsNoStep line s s' text

-- The requests among these are decided one after the other, each by this list of changes, and by the picks of the worker behind the
-- requests before it.
abbrev pub AreDecidedBy : Place → List Entry → Books → Books → List Part → Type 0
AreDecidedBy p list before after [] = after ≡ before
AreDecidedBy p list before after (a_request q h ∷ parts) =
    (h.changes ≡ list) × (h.books ≡ before) × AreDecidedBy p list (books_at p q h) after parts
AreDecidedBy p list before after (a_wait ∷ parts) = AreDecidedBy p list before after parts
AreDecidedBy p list before after (a_refused code ∷ parts) = AreDecidedBy p list before after parts
AreDecidedBy p list before after (a_close ∷ parts) = AreDecidedBy p list before after parts
AreDecidedBy p list before after (a_cut ∷ parts) = AreDecidedBy p list before after parts

-- What a backend's answer is.
abbrev pub outcome_of : Answer → Outcome
outcome_of (Ok r) = a_response r
outcome_of (Err fault) = a_fault fault

-- What a backend answers of whose calls to open, to send and to receive these fail, and which gives these bytes and then its end: the
-- first of the calls that fails, or what all its bytes come to.
abbrev pub AnswersSo : Bool → Bool → Bool → List ℕ → Bool → Answer → Type 0
AnswersSo true sends receives bytes head answer = answer ≡ Err Open
AnswersSo false true receives bytes head answer = answer ≡ Err Send
AnswersSo false false true bytes head answer = answer ≡ Err Receive
AnswersSo false false false bytes head answer = ResponseOf head bytes true (outcome_of answer)

-- What the backend at a socket answers after these orders, to HEAD or another method.
abbrev pub AnswersBy : List Order → Socket → Bool → Answer → Type 0
AnswersBy orders to head answer =
    AnswersSo (fails_at calls.Connect to orders) (fails_at calls.Send to orders) (fails_at calls.Receive to orders) (answer_at to orders) head answer

-- A request that goes to a backend has that backend's answer; another one has none.
abbrev pub IsAnswered : List Order → Action → Bool → Option Answer → Type 0
IsAnswered orders (replies code location fault) head answer = answer ≡ None
IsAnswered orders (forwards to bytes edits) head None = ⊥
IsAnswered orders (forwards to bytes edits) head (Some answer) = AnswersBy orders to head answer

-- Each of the requests among these.
abbrev pub AreAnswered : List Order → Place → List Part → Type 0
AreAnswered orders p [] = ⊤
AreAnswered orders p (a_request q h ∷ parts) = IsAnswered orders (decision_at p q h).action (is_head q) h.answer × AreAnswered orders p parts
AreAnswered orders p (a_wait ∷ parts) = AreAnswered orders p parts
AreAnswered orders p (a_refused code ∷ parts) = AreAnswered orders p parts
AreAnswered orders p (a_close ∷ parts) = AreAnswered orders p parts
AreAnswered orders p (a_cut ∷ parts) = AreAnswered orders p parts

-- A connection is served by a piece of its bytes, where an empty piece is their end. What came of it is all that the bytes give. Each
-- request among that is decided by the published list, and by the worker's picks behind the requests before it, over all its connections.
-- The backends answer as the lines before have said. All replies are written.
pub record Serves (p : Place) (line : ℕ) (name : List ℕ) (c c' : Client) (piece : List ℕ) (ending : Option Ended) (s s' : State) (text : List ℕ) : Type 0 where
  pub before : Books
  pub after : Books
  pub more : List Part
  pub wrote : List ℕ
  pub worker : slice_get s.workers c.worker ≡ Some before
  pub all : IsAllOf (c.bytes ++ piece) (length piece == 0) (c.parts ++ more)
  pub ends : ended (map bytes_step (c.parts ++ more)) ≡ ending
  pub decided : AreDecidedBy p s.published before after more
  pub answered : AreAnswered s.orders p more
  pub wrote_is : c.text ++ wrote ≡ written p (c.parts ++ more)
  pub client : c' ≡ record c { bytes = c.bytes ++ piece; parts = c.parts ++ more; text = c.text ++ wrote }
  pub state : s' ≡ record s {
    workers = set s.workers c.worker after;
    statuses = s.statuses ++ map (λ row. row.status) (rows_of p more);
  }
  pub text_is : text ≡ rows_text name line p more ++ written_text name line wrote ++ end_text name line ending

-- The connection after it, unless it ended.
abbrev pub unless_ended : Option Ended → Client → Option Client
unless_ended None client = Some client
unless_ended (Some why) client = None

-- The client of a name sends a piece, or has sent all where it is empty; there must be an open connection of that name.
abbrev pub Sends : Site → ℕ → List ℕ → List ℕ → Option Client → State → State → List ℕ → Type 0
Sends site line name piece None s s' text = IsNoStep line s s' text
Sends site line name piece (Some c) s s' text =
    (c' : Client) × ((ending : Option Ended) × ((served : State)
    × (Serves (place_at site c.door) line name c c' piece ending s served text
    × (s' ≡ record served { clients = update bytes_eq s.clients name (unless_ended ending c') }))))

-- A backend is told what to do from now on.
abbrev pub IsAnswer : Order → Socket → List ℕ → Type 0
IsAnswer (Answers at text) socket bytes = (at ≡ socket) × (text.items ≡ bytes)
IsAnswer (Fails at call) socket bytes = ⊥

abbrev pub with_order : State → Order → State
with_order s order = record s { orders = s.orders ++ order ∷ [] }

-- What a step does. An event has its moment; no other step has one. A backend's text is followed by so many `x`.
abbrev pub StepDone : Site → ℕ → Step → List ℤ → State → State → List ℕ → Type 0
StepDone site line (an_event bytes) moments s s' text =
    (at : ℤ) × ((moments ≡ at ∷ []) × EventDone line at (answer (world_after s.changes) bytes) s s' text)
StepDone site line a_publication moments s s' text = (moments ≡ []) × Publishes line s s' text
StepDone site line (a_beginning name worker door) moments s s' text = (moments ≡ []) × Begins line name worker door (s.clients name) s s' text
StepDone site line (a_sending name bytes) moments s s' text = (moments ≡ []) × Sends site line name bytes (s.clients name) s s' text
StepDone site line (an_end name) moments s s' text = (moments ≡ []) × Sends site line name [] (s.clients name) s s' text
StepDone site line (an_answer socket bytes fill) moments s s' text =
    (moments ≡ []) × ((order : Order) × (IsAnswer order socket (bytes ++ replicate fill 120) × (s' ≡ with_order s order) × (text ≡ [])))
StepDone site line (a_failure socket call) moments s s' text =
    (moments ≡ []) × (s' ≡ with_order s (Fails socket call)) × (text ≡ [])

-- What a line that isn't blank does: its step, or it is refused.
abbrev pub SaidDone : Site → ℕ → Result Step StepRefusal → List ℤ → State → State → List ℕ → Type 0
SaidDone site line (Ok step) moments s s' text = StepDone site line step moments s s' text
SaidDone site line (Err e) moments s s' text = (moments ≡ []) × IsRefused line (step_refusal_number e) (step_refusal_path e) s s' text

-- What a line does. A blank one does nothing.
abbrev pub LineDone : Bool → Site → ℕ → List ℕ → List ℤ → State → State → List ℕ → Type 0
LineDone true site line bytes moments s s' text = (moments ≡ []) × (s' ≡ s) × (text ≡ [])
LineDone false site line bytes moments s s' text =
    SaidDone site line (step_of (length s.workers) (length site.doors) bytes) moments s s' text

-- What lines do, one after the other, where the first of them has this number: they go from one state to another, and this is written.
abbrev pub Runs : Site → ℕ → List (List ℕ) → List ℤ → State → State → List ℕ → Type 0
Runs site line [] moments s s' text = (moments ≡ []) × (s' ≡ s) × (text ≡ [])
Runs site line (bytes ∷ lines) moments s s' text =
    (here : List ℤ) × ((later : List ℤ) × ((middle : State) × ((first : List ℕ) × ((rest : List ℕ)
    × ((moments ≡ here ++ later) × (text ≡ first ++ rest) × LineDone (is_blank bytes) site line bytes here s middle first
    × Runs site (line + 1) lines later middle s' rest)))))

-- A line with this reading sends on a connection that is open.
abbrev pub SendsOn : Result Step StepRefusal → (List ℕ → Option Client) → Type 0
SendsOn (Ok (an_event bytes)) clients = ⊥
SendsOn (Ok a_publication) clients = ⊥
SendsOn (Ok (a_beginning name worker door)) clients = ⊥
SendsOn (Ok (a_sending name bytes)) clients = (client : Client) × (clients name ≡ Some client)
SendsOn (Ok (an_end name)) clients = (client : Client) × (clients name ≡ Some client)
SendsOn (Ok (an_answer socket bytes fill)) clients = ⊥
SendsOn (Ok (a_failure socket call)) clients = ⊥
SendsOn (Err e) clients = ⊥

-- The last line, by what stands after all lines.
abbrev pub totals_text : State → List ℕ
totals_text s = line_of (totals_data (length s.changes) (length s.published) s.refused s.statuses s.skipped)
