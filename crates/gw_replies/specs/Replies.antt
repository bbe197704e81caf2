-- What a reader stands for: the bytes that it was fed, and what it has given, if anything.
use Rattle.std.specs.Prelude.{ℕ, ◌≡◌, List, [], ◌++◌, Bool, true, false, ⊤, Option, Some, None}
use Rattle.gw_messages.specs.model.Bodies.{Body, whole_body, bad_body, part_body}
use Rattle.gw_messages.specs.Readings.{Comes}
use Rattle.gw_replies.specs.model.Responses.{Outcome, a_need, a_response, a_fault, Response, ResponseOf, Responds, body_to_end, fault_of, unfinished}
use Rattle.gw_replies.specs.declared.reader.ReplyReader.{ReplyReader}
use Rattle.gw_replies.specs.declared.reader.Stage.{Stage}
use Rattle.gw_replies.specs.declared.reader.Stage.TheVariants.{Head, Body as Reads, ToEnd, Done, Failed}
use Rattle.gw_replies.specs.declared.step.ReplyStep.{ReplyStep}
use Rattle.gw_replies.specs.declared.step.ReplyStep.TheVariants as steps

-- What a step says that bytes come to.
abbrev pub seen : ReplyStep → Outcome
seen steps.Need = a_need
seen (steps.Done r) = a_response r.value
seen (steps.Fault fault) = a_fault fault

-- What was given, if anything.
abbrev pub given : Outcome → Option Outcome
given a_need = None
given (a_response r) = Some (a_response r)
given (a_fault fault) = Some (a_fault fault)

-- What is given once, and what is said from then on: that no more is given, or the same fault.
abbrev pub again : Outcome → Outcome
again a_need = a_need
again (a_response r) = a_need
again (a_fault fault) = a_fault fault

-- The response with this body.
abbrev pub with_body : Response → List ℕ → Response
with_body r body = record { code = r.code; phrase = r.phrase; fields = r.fields; body = body; length = r.length }

-- What a response comes to whose body comes to this.
abbrev pub follows : Response → Body → Bool → Outcome
follows r (whole_body body rest) over = a_response (with_body r body)
follows r (bad_body fault) over = a_fault (fault_of fault)
follows r part_body over = unfinished over

-- What bytes come to at a stage, behind so many interim responses of so many bytes.
abbrev pub StillAt : Stage → Bool → ℕ → ℕ → List ℕ → Bool → Outcome → Type 0
StillAt Head to_head count before bytes over outcome = Responds to_head count before bytes over outcome
StillAt (Reads r reading) to_head count before bytes over outcome =
    (body : Body) × Comes reading bytes body × (outcome ≡ follows r.value body over)
StillAt (ToEnd r) to_head count before bytes over outcome = outcome ≡ follows r.value (body_to_end bytes over) over
StillAt Done to_head count before bytes over outcome = ⊥
StillAt (Failed fault) to_head count before bytes over outcome = ⊥

-- What it all comes to, where these bytes come next, and then all have come where `over` is true.
abbrev pub Still : ReplyReader → List ℕ → Bool → Outcome → Type 0
Still r next over outcome = StillAt r.stage r.to_head r.interims r.taken (r.buffer ++ next) over outcome

-- What may still come.
abbrev pub IsFuture : Bool → List ℕ → Bool → Type 0
IsFuture false next over = ⊤
IsFuture true next over = (next ≡ []) × (over ≡ true)

-- Nothing was given yet.
abbrev pub IsOpen : Stage → Type 0
IsOpen Head = ⊤
IsOpen (Reads r reading) = ⊤
IsOpen (ToEnd r) = ⊤
IsOpen Done = ⊥
IsOpen (Failed fault) = ⊥

-- This was given.
abbrev pub HasGiven : Stage → Outcome → Type 0
HasGiven Head outcome = ⊥
HasGiven (Reads r reading) outcome = ⊥
HasGiven (ToEnd r) outcome = ⊥
HasGiven Done outcome = again outcome ≡ a_need
HasGiven (Failed fault) outcome = again outcome ≡ a_fault fault

-- A reader of a response, to HEAD or not, stands for these bytes and what it gave: whatever comes next, the bytes come to what it
-- gave, or, where it gave nothing, to what it says of them.
abbrev pub StandsFor : Bool → ReplyReader → List ℕ → Option Outcome → Type 0
StandsFor to_head r bytes None =
    IsOpen r.stage × (r.to_head ≡ to_head)
    × ((next : List ℕ) (over : Bool) (outcome : Outcome) → IsFuture r.over next over → Still r next over outcome
    → ResponseOf to_head (bytes ++ next) over outcome)
StandsFor to_head r bytes (Some outcome) =
    HasGiven r.stage outcome
    × ((next : List ℕ) (over : Bool) → IsFuture r.over next over → ResponseOf to_head (bytes ++ next) over outcome)

-- What was given after a step.
abbrev pub after : Option Outcome → ReplyStep → Option Outcome
after None step = given (seen step)
after (Some outcome) step = Some outcome

-- A step says what the bytes come to; or, where that was given, that no more is, or the same fault.
abbrev pub Answers : Bool → List ℕ → Bool → Option Outcome → ReplyStep → Type 0
Answers to_head bytes over None step = ResponseOf to_head bytes over (seen step)
Answers to_head bytes over (Some outcome) step = seen step ≡ again outcome

-- One reader becomes another and gives nothing: whatever comes next, what the other one says is what the first one would have said.
pub record Goes (i j : ReplyReader) : Type 0 where
  pub over : j.over ≡ i.over
  pub to_head : j.to_head ≡ i.to_head
  pub stays_open : IsOpen j.stage
  pub leads : (next : List ℕ) (over : Bool) (outcome : Outcome) → IsFuture i.over next over → Still j next over outcome
      → Still i next over outcome

-- Whatever comes next, it all comes to this.
abbrev pub Ends : ReplyReader → Outcome → Type 0
Ends i outcome = (next : List ℕ) (over : Bool) → IsFuture i.over next over → Still i next over outcome

-- One reader becomes another by a step.
abbrev pub IsStep : ReplyReader → ReplyReader → ReplyStep → Type 0
IsStep i j steps.Need = Goes i j × Still j [] j.over a_need
IsStep i j (steps.Done r) = (j.over ≡ i.over) × (j.stage ≡ Done) × Ends i (a_response r.value)
IsStep i j (steps.Fault fault) = (j.over ≡ i.over) × (j.stage ≡ Failed fault) × Ends i (a_fault fault)

-- A body is read.
abbrev pub IsReads : Stage → Type 0
IsReads Head = ⊥
IsReads (Reads r reading) = ⊤
IsReads (ToEnd r) = ⊤
IsReads Done = ⊥
IsReads (Failed fault) = ⊥
