-- What a connection of the admin endpoint comes to: for each of its requests, by which list of changes it was answered, and what the
-- client was written.
use Rattle.std.specs.Prelude.{◌≤◌, ℕ, ℤ, ◌+◌, ◌-◌, List, [], ◌∷◌, ◌++◌, codes, length, take, Bool, true, Option, Some, None, is_some, ⊤}
use Rattle.gw_admin_texts.specs.declared.resource.Destination.{Destination}
use Rattle.gw_admin_texts.specs.declared.resource.Destination.TheVariants.{Found, NotAllowed, Missing}
use Rattle.gw_admin_texts.specs.declared.resource.Resource.TheVariants.{Changes, Status, Table, Explain, Health}
use Rattle.gw_admin_texts.specs.model.Listings.{health_reply, status_reply, table_reply}
use Rattle.gw_admin_texts.specs.model.Questions.{IsQuestionOf, Question, bad_request, explanation_reply}
use Rattle.gw_admin_texts.specs.model.Replies.{Reply, not_allowed, not_found, reply_text}
use Rattle.gw_admin_texts.specs.model.Resources.{destination_of}
use Rattle.gw_admin_texts.specs.model.Submissions.{Answer, changes_reply}
use Rattle.gw_frames.specs.model.Requests.{Request, Step, an_ask, a_break, a_continue, a_refusal, an_end, end_behind}
use Rattle.gw_hub.specs.Turns.{ComeInTurn, event_lines}
use Rattle.gw_lists.specs.Lists.{BeginsWith}
use Rattle.gw_match.specs.model.Telling.{tables_of, world_after}
use Rattle.gw_replies.specs.model.Written.{own}
use Rattle.gw_status.specs.StatusText.{statuses_text}
use Rattle.gw_store.specs.declared.event.Entry.{Entry}
use Rattle.gw_text.specs.model.Doors.{Door}
use Rattle.gw_text.specs.model.Statuses.{statuses_of}

-- For which opening the endpoint stands: its doors, and its controller's name.
pub record Place : Type 0 where
  pub doors : List Door
  pub controller : List ℕ

-- How a request was answered: the list of changes over which its reply stands. For one that brings changes also the moment at which they
-- came, the place of the first of them in the list, and what each line was answered; for one that asks what becomes of a request, the
-- question that its body is, if it is one.
pub record Handled : Type 0 where
  pub changes : List Entry
  pub at : ℤ
  pub first : ℕ
  pub answers : List Answer
  pub question : Option Question

-- The reply to a question over a list of changes.
abbrev pub explained : Place → List Entry → Option Question → Reply
explained p changes None = bad_request
explained p changes (Some q) = explanation_reply (tables_of p.doors p.controller (world_after changes)) q (length changes)

-- The reply to a request with this body that goes there.
abbrev pub reply_by : Place → Destination → List ℕ → Handled → Reply
reply_by p Missing body h = not_found
reply_by p (NotAllowed r) body h = not_allowed r
reply_by p (Found Changes) body h = changes_reply body h.answers h.first (length h.changes - h.first) (length h.changes)
reply_by p (Found Status) body h = status_reply (statuses_text (statuses_of p.doors p.controller (world_after h.changes))) (length h.changes)
reply_by p (Found Table) body h = table_reply (tables_of p.doors p.controller (world_after h.changes)) (length h.changes)
reply_by p (Found Explain) body h = explained p h.changes h.question
reply_by p (Found Health) body h = health_reply

-- The reply to a request.
abbrev pub reply_of : Place → Request → Handled → Reply
reply_of p q h = reply_by p (destination_of q) q.body h

-- The lines of a body led from the first changes of the list to the whole list, each over the changes before it: so the accepted events
-- stand at its end, each once, in the order of their lines, and all with one moment. What was seen before stands before them.
pub record IsSubmitted (before : List Entry) (body : List ℕ) (h : Handled) : Type 0 where
  pub come : ComeInTurn h.at (event_lines body) h.answers (take h.first h.changes) h.changes
  pub first : h.first ≤ length h.changes
  pub begins : BeginsWith before (take h.first h.changes)

-- How a request with this body may be answered that goes there.
abbrev pub IsHandledBy : Destination → List Entry → List ℕ → Handled → Type 0
IsHandledBy Missing before body h = ⊤
IsHandledBy (NotAllowed r) before body h = ⊤
IsHandledBy (Found Changes) before body h = IsSubmitted before body h
IsHandledBy (Found Status) before body h = ⊤
IsHandledBy (Found Table) before body h = ⊤
IsHandledBy (Found Explain) before body h = IsQuestionOf body h.question
IsHandledBy (Found Health) before body h = ⊤

-- The moments for which the clock is asked: one for each request that brings changes.
abbrev pub moments_by : Destination → Handled → List ℤ
moments_by Missing h = []
moments_by (NotAllowed r) h = []
moments_by (Found Changes) h = h.at ∷ []
moments_by (Found Status) h = []
moments_by (Found Table) h = []
moments_by (Found Explain) h = []
moments_by (Found Health) h = []

-- The connection ends behind the request of this number: it asks for that, or is the 1,000th. Source: RFC 9112 section 9.6.
abbrev pub is_last : ℕ → Request → Bool
is_last number q = is_some (end_behind number q)

-- What came of a connection's bytes, one after the other: a request, and how it was answered; the answer 100, for which a request
-- waited; a refusal; an end; an end inside a request.
pub data Part : Type 0 where
  a_request : Request → Handled → Part
  a_wait : Part
  a_refused : ℕ → Part
  a_close : Part
  a_cut : Part

-- The step of the bytes that it is.
abbrev pub step_of : Part → Step
step_of (a_request q h) = an_ask q
step_of a_wait = a_continue
step_of (a_refused code) = a_refusal code
step_of a_close = an_end
step_of a_cut = a_break

-- How many requests there are, where so many came before.
abbrev pub asks_behind : ℕ → List Part → ℕ
asks_behind count [] = count
asks_behind count (a_request q h ∷ parts) = asks_behind (count + 1) parts
asks_behind count (a_wait ∷ parts) = asks_behind count parts
asks_behind count (a_refused code ∷ parts) = asks_behind count parts
asks_behind count (a_close ∷ parts) = asks_behind count parts
asks_behind count (a_cut ∷ parts) = asks_behind count parts

-- Each request is answered over a list of changes that begins with what was seen before, and with the list of the request before it; what
-- is seen at the end begins with the last of them.
abbrev pub Answered : List Entry → List Entry → List Part → Type 0
Answered before after [] = BeginsWith before after
Answered before after (a_request q h ∷ parts) =
    BeginsWith before h.changes × IsHandledBy (destination_of q) before q.body h × Answered h.changes after parts
Answered before after (a_wait ∷ parts) = Answered before after parts
Answered before after (a_refused code ∷ parts) = Answered before after parts
Answered before after (a_close ∷ parts) = Answered before after parts
Answered before after (a_cut ∷ parts) = Answered before after parts

-- The moments of all requests that bring changes, in turn.
abbrev pub moments_of : List Part → List ℤ
moments_of [] = []
moments_of (a_request q h ∷ parts) = moments_by (destination_of q) h ++ moments_of parts
moments_of (a_wait ∷ parts) = moments_of parts
moments_of (a_refused code ∷ parts) = moments_of parts
moments_of (a_close ∷ parts) = moments_of parts
moments_of (a_cut ∷ parts) = moments_of parts

-- The answer 100. Source: RFC 9110 section 15.2.1.
abbrev pub continue_text : List ℕ
continue_text = codes "HTTP/1.1 100 Continue" ++ 13 ∷ 10 ∷ 13 ∷ 10 ∷ []

-- What is written, behind so many requests: the answer 100 where a request waits for it, a reply for each request, and the reply of a
-- refusal, behind which the connection ends.
abbrev pub written_behind : Place → ℕ → List Part → List ℕ
written_behind p count [] = []
written_behind p count (a_request q h ∷ parts) = reply_text (reply_of p q h) (is_last (count + 1) q) ++ written_behind p (count + 1) parts
written_behind p count (a_wait ∷ parts) = continue_text ++ written_behind p count parts
written_behind p count (a_refused code ∷ parts) = own code None None true ++ written_behind p count parts
written_behind p count (a_close ∷ parts) = written_behind p count parts
written_behind p count (a_cut ∷ parts) = written_behind p count parts
